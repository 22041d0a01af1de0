use Rattle.std.proofs.Common.{◌≤◌, arith, subst}
use Rattle.smith_read.specs.PartNodes.{shown_tree}
use Rattle.smith_change.specs.Changes.{changes}
use Rattle.smith_change.proofs.Beyond.{none_at_all}
use Rattle.smith_change.proofs.Passing.{one_more}
use Rattle.smith_corpus.specs.NearMisses.{IsChangeAt}
use Rattle.smith_corpus.proofs.breaking.first_change.Goals as goal

pub loop-number-preserved : goal.loop-number-preserved
loop-number-preserved c =
    one_more (shown_tree c.args.tree.now) 0 c.loop-number.number c.loop-number.invariant
    (subst (IsChangeAt (shown_tree c.args.tree.now) c.loop-number.number) c.in_default.is (c.in_ok-found.ensures {u = tt}))

pub returns : goal.returns
returns c =
    let is_last : changes (shown_tree c.args.tree.now) ≤ c.loop-number.number = omega arith in
    λ n. none_at_all (shown_tree c.args.tree.now) 0 c.loop-number.number c.loop-number.invariant is_last n (omega arith)
