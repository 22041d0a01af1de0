use Rattle.smith_format.proofs.Steps.{exits, due_left}
use Rattle.smith_core.proofs.module.encode.types.FieldTypeSpelledModuleFormat.put.Goals as goal

pub returns-in_err-put : goal.returns-in_err-put
returns-in_err-put c = let d = c.in_err-put.ensures {u = tt} in exits _ _ c.from_residual.ensures.1 d.0 (due_left _ d.1)
