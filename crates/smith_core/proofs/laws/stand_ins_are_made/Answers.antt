use Rattle.smith_core.proofs.StandInMade.{stand_in_made}
use Rattle.smith_core.proofs.laws.stand_ins_are_made.Goals as goal

pub returns : goal.returns
returns c config b m rest r = stand_in_made config b m rest r
