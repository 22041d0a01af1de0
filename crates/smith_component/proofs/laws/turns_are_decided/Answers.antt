use Rattle.smith_component.proofs.Decided.{turn_same}
use Rattle.smith_component.proofs.laws.turns_are_decided.Goals as goal

pub returns : goal.returns
returns c config stack bytes x y left rest r s = turn_same r s
