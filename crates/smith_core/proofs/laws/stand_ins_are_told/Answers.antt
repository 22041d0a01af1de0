use Rattle.smith_core.proofs.StandInTold.{stand_in_told}
use Rattle.smith_core.proofs.laws.stand_ins_are_told.Goals as goal

pub returns : goal.returns
returns c config s b h e = stand_in_told config s b h e
