use Rattle.std.proofs.Common.{length}
use Rattle.smith_read.specs.Walk.{to_come}
use Rattle.smith_stats.proofs.combining.Combining.add_steps.Given as goal

abbrev pub decreases-loop-steps : goal.decreases-loop-steps
decreases-loop-steps l = length (to_come l.steps)
