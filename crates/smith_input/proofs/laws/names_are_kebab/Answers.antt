use Rattle.smith_input.proofs.Kebab.{kebab_is_read}
use Rattle.smith_input.proofs.laws.names_are_kebab.Goals as goal

pub returns : goal.returns
returns c max bytes name rest r = kebab_is_read r
