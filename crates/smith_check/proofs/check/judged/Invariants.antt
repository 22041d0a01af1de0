use Rattle.std.proofs.Common.{length}
use Rattle.smith_read.specs.PartNodes.{shown_tree}
use Rattle.smith_read.specs.Walk.{to_come}
use Rattle.smith_check.proofs.Stepping.{Going}
use Rattle.smith_check.proofs.check.judged.Given as goal

abbrev pub invariant-loop-check : goal.invariant-loop-check
invariant-loop-check l = Going (shown_tree l.component) (to_come l.steps) l.check l.item

abbrev pub decreases-loop-check : goal.decreases-loop-check
decreases-loop-check l = length (to_come l.steps)
