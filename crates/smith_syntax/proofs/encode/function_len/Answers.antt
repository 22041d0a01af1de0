use Rattle.smith_format.proofs.Sizes.{length_then, too_much_left}
use Rattle.smith_syntax.proofs.Signature.{functype_is}
use Rattle.smith_syntax.proofs.encode.function_len.Goals as goal

pub returns-in_err-tagged_len : goal.returns-in_err-tagged_len
returns-in_err-tagged_len c =
    let d = rw c.deref.ensures.value at (c.in_err-tagged_len.ensures {u = tt} 0x40) in
    rw (c.from_residual.ensures, functype_is _ c.ty.inside.params.items c.ty.inside.result c.ty.view_is) (too_much_left _ d)

pub returns : goal.returns
returns c =
    let d = rw c.deref.ensures.value at (c.in_ok-tagged_len.ensures {u = tt} 0x40) in
    rw (functype_is _ c.ty.inside.params.items c.ty.inside.result c.ty.view_is)
    (length_then c.checked_add.result c.checked_add.ensures d.0 c.result_len.ensures.length)
