use Rattle.std.proofs.Common.{◌≡◌, ◌+◌, length}
use Rattle.smith_read.specs.PartNodes.{shown_tree}
use Rattle.smith_read.specs.Items.{items}
use Rattle.smith_read.specs.Walk.{to_come}
use Rattle.smith_check.proofs.Items.{counted}
use Rattle.smith_check.proofs.Judging.{Same}
use Rattle.smith_verdict.specs.Contained.{HasNoReferences, IsPlainContent, IsWithinBounds, KeepsMore}
use Rattle.smith_verdict.proofs.Walked.{OfSteps}
use Rattle.smith_verdict.proofs.contained.check_contents.Given as goal

abbrev pub invariant-loop-steps : goal.invariant-loop-steps
invariant-loop-steps l = record {
  plain : Same (HasNoReferences (shown_tree l.component)) (OfSteps IsPlainContent (to_come l.steps));
  bounded : Same (KeepsMore (shown_tree l.component)) (OfSteps IsWithinBounds (to_come l.steps));
  count : l.item + counted (to_come l.steps) ≡ items (shown_tree l.component);
}

abbrev pub decreases-loop-steps : goal.decreases-loop-steps
decreases-loop-steps l = length (to_come l.steps)
