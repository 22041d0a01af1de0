use Rattle.smith_format.specs.Piece.{byte}
use Rattle.smith_format.proofs.Steps.{exits_between}
use Rattle.smith_syntax.proofs.encode.defined.Tuple2StringOptionComponentValTypeSpelledComponentFormat.put.Goals as goal

pub returns-in_err-put_maybe_val : goal.returns-in_err-put_maybe_val
returns-in_err-put_maybe_val c =
    let d = c.in_err-put_maybe_val.ensures {u = tt} in
    exits_between _ _ (byte 0) c.from_residual-in_err-put_maybe_val.ensures.1 (rw c.deref.ensures at ((c.in_ok-write_text.ensures {u = tt}).written)) d.0 d.1
