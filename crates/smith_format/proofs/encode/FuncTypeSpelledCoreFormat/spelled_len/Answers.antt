use Rattle.std.proofs.Common.{arith, refl}
use Rattle.smith_format.proofs.Sizes.{length_is, takes_bytes, takes_then}
use Rattle.smith_format.proofs.encode.FuncTypeSpelledCoreFormat.spelled_len.Goals as goal

pub returns : goal.returns
returns c =
    let p = rw c.deref.ensures.value at ((c.in_ok-many_len.ensures {u = tt}).0) in
    let q = rw c.deref-2.ensures.value at ((c.in_ok-many_len-2.ensures {u = tt}).0) in
    length_is c.checked_add-2.result c.checked_add-2.ensures (takes_then (takes_bytes 1 _ refl) (takes_then p q))
    (omega (arith, (c.in_ok-params.ensures {u = tt}).1))
