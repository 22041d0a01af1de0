use Rattle.smith_input.proofs.Kebab.{kebab_is_kept}
use Rattle.smith_input.proofs.laws.unique_names_are_kebab.Goals as goal

pub returns : goal.returns
returns c = kebab_is_kept
