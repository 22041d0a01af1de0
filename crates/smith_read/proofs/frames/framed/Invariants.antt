use Rattle.smith_read.proofs.SectionWalk.{Walking, weight}
use Rattle.smith_read.proofs.frames.framed.Given as goal

abbrev pub invariant-loop-current : goal.invariant-loop-current
invariant-loop-current l = Walking l.bytes l.offset l.rests.items

abbrev pub decreases-loop-current : goal.decreases-loop-current
decreases-loop-current l = weight l.rests.items
