use Rattle.smith_core.proofs.Kept.{stand_in_is}
use Rattle.smith_core.proofs.module.Kept.put.Goals as goal

pub returns-in-StandIn : goal.returns-in-StandIn
returns-in-StandIn c = rw (c.in-StandIn.is, stand_in_is c.in-StandIn.stand_in) c.put.ensures
