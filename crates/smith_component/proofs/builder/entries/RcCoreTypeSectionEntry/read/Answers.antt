use Rattle.std.proofs.Common.{◌∷◌, [], length, length-append, ap, ◌∙◌, arith}
use Rattle.smith_scopes.specs.Scopes.{AddsSized}
use Rattle.smith_syntax.specs.Shown.{shown_shared_core}
use Rattle.smith_tree.specs.Marking.{with_core_entry}
use Rattle.smith_scopes.proofs.Marking.{length-changed}
use Rattle.smith_scopes.proofs.Stack.{GrownMarked, length-last-core, own_scope_is}
use Rattle.smith_component.proofs.SectionsState.{core_type_added}
use Rattle.smith_component.proofs.builder.entries.RcCoreTypeSectionEntry.read.Goals as goal

pub push_sized-requires : goal.push_sized-requires
push_sized-requires c =
    omega (arith, length-last-core c.args.scopes.now, ap (λ s. length s.core_types) (own_scope_is c.args.scopes.now), c.requires.room)

pushed : (c : goal.In_ok-push_sized) → AddsSized c.args.scopes.now c.in_ok-made.made.value c.in_ok-size.size c.push_sized.new.self
pushed c = grind arith

-- the scopes have one more
grows : (c : goal.In_ok-push_sized) → GrownMarked (λ s. with_core_entry s (shown_shared_core c.in_ok-made.made)) c.args.scopes.now c.push_sized.new.self
grows c = grind (arith, core_type_added, pushed)

pub returns-clause-read : goal.returns-clause-read
returns-clause-read c = grind (arith, own_scope_is, grows)

pub returns-clause-count : goal.returns-clause-count
returns-clause-count c = grind (arith, grows, length-append)

pub returns-clause-around : goal.returns-clause-around
returns-clause-around c = record { outer = (grows c).outer; depth = length-changed _ _ _ (pushed c) }
