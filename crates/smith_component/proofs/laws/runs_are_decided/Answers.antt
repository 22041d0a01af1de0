use Rattle.smith_component.proofs.Decided.{runs_to_same}
use Rattle.smith_component.proofs.laws.runs_are_decided.Goals as goal

pub returns : goal.returns
returns c config input a d b r x y = runs_to_same config input a d b r x y
