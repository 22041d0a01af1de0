use Rattle.smith_input.proofs.Kebab.{kebab_unique}
use Rattle.smith_input.proofs.laws.names_are_decided.Goals as goal

pub returns : goal.returns
returns c max bytes a b left rest r s = kebab_unique r s
