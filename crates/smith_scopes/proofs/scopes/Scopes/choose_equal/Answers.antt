use Rattle.std.proofs.Common.{arith}
use Rattle.smith_scopes.proofs.Stack.{last_is}
use Rattle.smith_scopes.proofs.scopes.Scopes.choose_equal.Goals as goal

pub returns-clause-chosen : goal.returns-clause-chosen
returns-clause-chosen c = grind (arith, last_is)
