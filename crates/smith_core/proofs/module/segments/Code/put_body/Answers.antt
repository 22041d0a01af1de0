use Rattle.smith_format.proofs.Steps.{exits, ends, due_left}
use Rattle.smith_core.proofs.module.segments.Code.put_body.Goals as goal

pub returns-in_err-put_many : goal.returns-in_err-put_many
returns-in_err-put_many c =
    let d = rw c.deref.ensures.value at (c.in_err-put_many.ensures {u = tt}) in
    exits _ _ c.from_residual.ensures.1 d.0 (due_left _ d.1)

pub returns : goal.returns
returns c =
    let listed = rw c.deref.ensures.value at (c.in_ok-put_many.ensures {u = tt}) in
    ends c.put.result _ _ listed c.put.ensures
