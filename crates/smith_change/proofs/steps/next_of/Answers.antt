use Rattle.std.proofs.Common.{◌≤◌, arith, subst}
use Rattle.std.specs.Option.{option_map}
use Rattle.smith_read.specs.PartNodes.{shown_tree}
use Rattle.smith_change.specs.Changes.{IsLead, changes}
use Rattle.smith_change.proofs.Beyond.{none_at_all}
use Rattle.smith_change.proofs.Passing.{one_more}
use Rattle.smith_change.proofs.steps.next_of.Goals as goal

pub loop-number-preserved : goal.loop-number-preserved
loop-number-preserved c =
    one_more (shown_tree c.args.tree.now) c.args.from c.loop-number.number c.loop-number.invariant
    (subst (λ r. IsLead (shown_tree c.args.tree.now) c.loop-number.number (option_map (λ b. b.items) r)) c.in_default.is (c.in_ok-bytes.ensures {u = tt}))

pub returns : goal.returns
returns c =
    let is_last : changes (shown_tree c.args.tree.now) ≤ c.loop-number.number = omega arith in
    none_at_all (shown_tree c.args.tree.now) c.args.from c.loop-number.number c.loop-number.invariant is_last
