use Rattle.smith_format.proofs.Steps.{exits, due_left}
use Rattle.smith_format.proofs.entity.TableTypeSpelledCoreFormat.put.Goals as goal

pub returns-in_err-put_ref : goal.returns-in_err-put_ref
returns-in_err-put_ref c = let d = c.in_err-put_ref.ensures {u = tt} in exits _ _ c.from_residual.ensures.1 d.0 (due_left _ d.1)
