use Rattle.std.proofs.Common.{arith}
use Rattle.smith_syntax.proofs.Signature.{pointwise-named}
use Rattle.smith_syntax.proofs.func.FuncTypePartialEq.eq.Goals as goal

pub returns-then-eq : goal.returns-then-eq
returns-then-eq c = grind (arith, pointwise-named)

pub returns-else-eq : goal.returns-else-eq
returns-else-eq c = grind (arith, pointwise-named)
