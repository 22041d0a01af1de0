use Rattle.std.proofs.Common.{◌∷◌, [], length-append, arith}
use Rattle.smith_scopes.specs.Scopes.{AddsMarked, outer_marked}
use Rattle.smith_syntax.specs.Shown.{shown_shared}
use Rattle.smith_tree.specs.Marking.{with_type_entry}
use Rattle.smith_scopes.proofs.Marking.{length-changed}
use Rattle.smith_scopes.proofs.Stack.{GrownMarked, length-last, own_scope_is}
use Rattle.smith_component.proofs.SectionsState.{type_added}
use Rattle.smith_component.proofs.builder.entries.RcDefTypeSectionEntry.read.Goals as goal

pub push_marked-requires : goal.push_marked-requires
push_marked-requires c = grind (arith, length-last, own_scope_is)

pushed : (c : goal.In_ok-push_marked) → AddsMarked c.args.scopes.now c.in_ok-made.made.value c.in_ok-made.mark c.push_marked.new.self
pushed c = grind arith

-- the scopes have one more
grows : (c : goal.In_ok-push_marked)
    → GrownMarked (λ s. with_type_entry (outer_marked c.args.scopes.now) s (shown_shared c.in_ok-made.made)) c.args.scopes.now c.push_marked.new.self
grows c =
    type_added c.args.scopes.now c.push_marked.new.self c.in_ok-made.made.value c.in_ok-made.mark (pushed c) c.in_ok-made.ensures.mark

pub returns-clause-read : goal.returns-clause-read
returns-clause-read c = (c.arbitrary_marked_type.new.fuel, c.in_ok-made.ensures.made.made, (grows c).own)

pub returns-clause-count : goal.returns-clause-count
returns-clause-count c = grind (arith, grows, length-append)

pub returns-clause-around : goal.returns-clause-around
returns-clause-around c = record { outer = (grows c).outer; depth = length-changed _ _ _ (pushed c) }
