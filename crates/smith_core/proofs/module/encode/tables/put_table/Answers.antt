use Rattle.smith_format.proofs.Steps.{exits_between}
use Rattle.smith_core.proofs.module.encode.tables.put_table.Goals as goal

pub returns-in_err-put-in-Some : goal.returns-in_err-put-in-Some
returns-in_err-put-in-Some c =
    let d = c.in_err-put-in-Some.ensures {u = tt} in
    rw c.in-Some.is
    (exits_between _ _ _ c.from_residual-in_err-put-in-Some.ensures.1 (c.in_ok-write_bytes-in-Some.ensures {u = tt}) d.0 d.1)
