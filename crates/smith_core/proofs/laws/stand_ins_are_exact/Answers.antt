use Rattle.smith_core.proofs.StandInRead.{exact}
use Rattle.smith_core.proofs.laws.stand_ins_are_exact.Goals as goal

pub returns : goal.returns
returns c = exact
