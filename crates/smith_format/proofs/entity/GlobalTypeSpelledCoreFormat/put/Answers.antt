use Rattle.smith_format.proofs.Steps.{exits, due_left}
use Rattle.smith_format.proofs.entity.GlobalTypeSpelledCoreFormat.put.Goals as goal

pub returns-in_err-put_core_val : goal.returns-in_err-put_core_val
returns-in_err-put_core_val c = let d = c.in_err-put_core_val.ensures {u = tt} in exits _ _ c.from_residual.ensures.1 d.0 (due_left _ d.1)
