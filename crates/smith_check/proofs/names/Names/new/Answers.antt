use Rattle.std.proofs.Common.{ap}
use Rattle.std.specs.List.{IsDistinct, list_any}
use Rattle.smith_check.proofs.names.Names.new.Goals as goal

pub returns : goal.returns
unfolding IsDistinct
returns c = record { holds = record { has = λ q. ap (list_any _) c.new.ensures.empty }; named = (tt, tt) }
