use Rattle.smith_format.proofs.Steps.{exits_between}
use Rattle.smith_format.proofs.encode.FuncTypeSpelledCoreFormat.put.Goals as goal

pub returns-in_err-put_values : goal.returns-in_err-put_values
returns-in_err-put_values c =
    let d = rw c.deref.ensures.value at (c.in_err-put_values.ensures {u = tt}) in
    exits_between _ _ _ c.from_residual-in_err-put_values.ensures.1 (c.in_ok-write_byte.ensures {u = tt}) d.0 d.1
