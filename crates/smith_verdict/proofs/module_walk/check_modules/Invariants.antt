use Rattle.std.proofs.Common.{length}
use Rattle.smith_read.specs.PartNodes.{shown_tree}
use Rattle.smith_read.specs.Walk.{to_come}
use Rattle.smith_verdict.proofs.ModuleWalk.{Finding}
use Rattle.smith_verdict.proofs.module_walk.check_modules.Given as goal

abbrev pub invariant-loop-steps : goal.invariant-loop-steps
invariant-loop-steps l = Finding (shown_tree l.component) (to_come l.steps) l.item l.found

abbrev pub decreases-loop-steps : goal.decreases-loop-steps
decreases-loop-steps l = length (to_come l.steps)
