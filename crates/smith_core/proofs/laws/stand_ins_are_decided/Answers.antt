use Rattle.smith_core.proofs.StandInSame.{stand_in_same}
use Rattle.smith_core.proofs.laws.stand_ins_are_decided.Goals as goal

pub returns : goal.returns
returns c config b m n r q x y = stand_in_same x y
