use Rattle.smith_format.proofs.Steps.{exits, due_left}
use Rattle.smith_core.proofs.module.encode.types.SubTypeSpelledModuleFormat.put.Goals as goal

pub returns-in_err-put_sub_prefix : goal.returns-in_err-put_sub_prefix
returns-in_err-put_sub_prefix c =
    let d = c.in_err-put_sub_prefix.ensures {u = tt} in exits _ _ c.from_residual.ensures.1 d.0 (due_left _ d.1)
