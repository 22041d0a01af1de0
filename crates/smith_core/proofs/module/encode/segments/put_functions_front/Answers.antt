use Rattle.std.proofs.Common.{◌≡◌, Some}
use Rattle.smith_format.proofs.Steps.{exits, gains_begins, due_left, due_right, appends_puts}
use Rattle.smith_format.proofs.Piece.{joined}
use Rattle.smith_core.proofs.module.encode.segments.put_functions_front.Goals as goal

pub returns-in_err-put-in-Active-Some-default : goal.returns-in_err-put-in-Active-Some-default
returns-in_err-put-in-Active-Some-default c =
    let g = c.in_ok-write_byte-in-Active-Some-default.ensures {u = tt} in
    let h = (c.in_ok-write_u32-in-Active-Some-default.ensures {u = tt}).written in
    let d = c.in_err-put-in-Active-Some-default.ensures {u = tt} in
    let named : c.in-Active-Some-default.table' ≡ Some c.in-Active-Some-default.table = rw c.in-Active-Some-default.is at c.in-Active-Some-default.table-is in
    rw (c.in-Active-Some-default.is, named)
    (exits _ _ c.from_residual-in_err-put-in-Active-Some-default.ensures.1 (gains_begins g (gains_begins h d.0)) (due_right g (due_right h (due_left _ d.1))))

pub returns-in-Passive : goal.returns-in-Passive
returns-in-Passive c = rw (c.in-Passive.is, joined _ _) (appends_puts c.write_bytes.result _ _ _ c.write_bytes.ensures)

pub returns-in-Declared : goal.returns-in-Declared
returns-in-Declared c =
    rw (c.in-Declared.is, joined _ _) (appends_puts c.write_bytes-in-Declared.result _ _ _ c.write_bytes-in-Declared.ensures)
