use Rattle.smith_format.specs.Numbers.{unsigned}
use Rattle.smith_format.proofs.Steps.{Towards}
use Rattle.smith_format.proofs.numbers.put_u64.Given as goal

abbrev pub invariant-loop-rest : goal.invariant-loop-rest
invariant-loop-rest l = Towards l.fn.out (unsigned l.n) l.out (unsigned l.rest)

abbrev pub decreases-loop-rest : goal.decreases-loop-rest
decreases-loop-rest l = l.rest
