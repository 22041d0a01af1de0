use Rattle.smith_read.proofs.Digits.{fails, passes}
use Rattle.smith_read.proofs.Finding.{walk_ends, walk_fails, walk_more, walk_over}
use Rattle.smith_read.proofs.offsets.left_from.Goals as goal

pub returns-in_err-count : goal.returns-in_err-count
returns-in_err-count c =
    passes _ c.from_residual.result _ _ _ c.from_residual.ensures.1 c.in_err-count.ensures (walk_fails _ _ _ _ _ c.loop-test.true c.loop.invariant)

pub returns-in-Found : goal.returns-in-Found
returns-in-Found c = walk_ends _ _ _ _ _ _ c.loop-test.true (rw c.in-Found.is at c.in_ok-count.ensures) c.loop.invariant

pub loop-preserved : goal.loop-preserved
loop-preserved c = walk_more _ _ _ _ _ _ _ c.loop-test.true (rw c.in-Passed.is at c.in_ok-count.ensures) c.loop.invariant

pub returns : goal.returns
returns c = fails _ _ c.malformed.ensures (walk_over _ _ _ _ _ c.loop-test.false c.loop.invariant)
