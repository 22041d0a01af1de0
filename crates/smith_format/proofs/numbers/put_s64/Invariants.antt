use Rattle.std.proofs.Common.{unsigned_abs}
use Rattle.smith_format.specs.Numbers.{signed}
use Rattle.smith_format.proofs.Steps.{Towards}
use Rattle.smith_format.proofs.numbers.put_s64.Given as goal

abbrev pub invariant-loop-rest : goal.invariant-loop-rest
invariant-loop-rest l = Towards l.fn.out (signed l.n) l.out (signed l.rest)

abbrev pub decreases-loop-rest : goal.decreases-loop-rest
decreases-loop-rest l = unsigned_abs l.rest
