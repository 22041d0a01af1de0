use Rattle.smith_input.proofs.Kebab.{kebab_tail}
use Rattle.smith_input.proofs.laws.names_leave_a_tail.Goals as goal

pub returns : goal.returns
returns c max bytes name rest r = kebab_tail r
