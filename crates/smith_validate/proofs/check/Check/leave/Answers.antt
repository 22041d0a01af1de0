use Rattle.std.proofs.Common.{refl}
use Rattle.smith_validate.proofs.Standing.{leave_exactly}
use Rattle.smith_validate.proofs.check.Check.leave.Goals as goal

pub returns-then-depth-gt1-clause-exact : goal.returns-then-depth-gt1-clause-exact
returns-then-depth-gt1-clause-exact c = leave_exactly c.args.self.now _ c.leave.ensures c.leave-then-depth-gt1.ensures refl
