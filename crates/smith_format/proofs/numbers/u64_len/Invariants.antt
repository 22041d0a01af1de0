use Rattle.std.proofs.Common.{◌≡◌, ◌+◌, length}
use Rattle.smith_format.specs.Numbers.{unsigned}
use Rattle.smith_format.proofs.numbers.u64_len.Given as goal

abbrev pub invariant-loop-left : goal.invariant-loop-left
invariant-loop-left l = l.length + length (unsigned l.left) ≡ 1 + length (unsigned l.n)

abbrev pub decreases-loop-left : goal.decreases-loop-left
decreases-loop-left l = l.left
