use Rattle.std.proofs.Common.{length}
use Rattle.smith_read.specs.Walk.{to_come}
use Rattle.lupinanon.proofs.show.show_steps.Given as goal

abbrev pub decreases-loop-steps : goal.decreases-loop-steps
decreases-loop-steps g l = length (to_come l.steps)
