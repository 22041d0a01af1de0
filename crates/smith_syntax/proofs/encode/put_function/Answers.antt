use Rattle.smith_format.proofs.Steps.{ends, exits, due_left}
use Rattle.smith_syntax.proofs.Signature.{functype_is}
use Rattle.smith_syntax.proofs.encode.put_function.Goals as goal

pub returns-in_err-put_tagged : goal.returns-in_err-put_tagged
returns-in_err-put_tagged c =
    let d = rw c.deref.ensures.value at (c.in_err-put_tagged.ensures {u = tt}) in
    rw (functype_is _ c.ty.inside.params.items c.ty.inside.result c.ty.view_is) (exits _ _ c.from_residual.ensures.1 d.0 (due_left _ d.1))

pub returns : goal.returns
returns c =
    rw (functype_is _ c.ty.inside.params.items c.ty.inside.result c.ty.view_is)
    (ends c.put_result.result _ _ (rw c.deref.ensures.value at (c.in_ok-put_tagged.ensures {u = tt})) c.put_result.ensures)
