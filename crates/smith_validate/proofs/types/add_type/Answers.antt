use Rattle.std.proofs.Common.{arith, ◌∷◌, [], ◌∙◌}
use Rattle.smith_validate.proofs.Judging.{on_both}
use Rattle.smith_validate.proofs.Names.{sub_same}
use Rattle.smith_validate.proofs.Roles.{role_of}
use Rattle.smith_validate.proofs.ScopeSteps.{in_one}
use Rattle.smith_validate.proofs.types.add_type.Goals as goal

pub returns-clause-added : goal.returns-clause-added
returns-clause-added c = grind (arith, on_both, in_one, sub_same, role_of)
