use Rattle.std.proofs.Common.{◌≡◌, ◌+◌, length, unsigned_abs}
use Rattle.smith_format.specs.Numbers.{signed}
use Rattle.smith_format.proofs.numbers.s64_len.Given as goal

abbrev pub invariant-loop-left : goal.invariant-loop-left
invariant-loop-left l = l.length + length (signed l.left) ≡ 1 + length (signed l.n)

abbrev pub decreases-loop-left : goal.decreases-loop-left
decreases-loop-left l = unsigned_abs l.left
