use Rattle.std.proofs.Common.{length, ap, arith}
use Rattle.smith_format.proofs.Digits.{unsigned_last, unsigned_more, unsigned_some, unsigned_short_64}
use Rattle.smith_format.proofs.numbers.u64_len.Goals as goal

pub overflow_add-length : goal.overflow_add-length
overflow_add-length c = omega (arith, unsigned_some c.loop-left.left, unsigned_short_64 c.args.n c.ranges.n.fits)

pub loop-left-preserved : goal.loop-left-preserved
loop-left-preserved c = let e = ap length (unsigned_more c.loop-left.left c.loop-left-test.true) in omega arith

pub returns-clause-length : goal.returns-clause-length
returns-clause-length c = let e = ap length (unsigned_last c.loop-left.left c.loop-left-test.false) in omega arith

pub returns-clause-most : goal.returns-clause-most
returns-clause-most c = omega (arith, unsigned_some c.loop-left.left, unsigned_short_64 c.args.n c.ranges.n.fits)
