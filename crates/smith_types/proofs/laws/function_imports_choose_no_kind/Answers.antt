use Rattle.smith_types.proofs.ReferencesRead.{function_chosen}
use Rattle.smith_types.proofs.laws.function_imports_choose_no_kind.Goals as goal

pub returns : goal.returns
returns c = function_chosen
