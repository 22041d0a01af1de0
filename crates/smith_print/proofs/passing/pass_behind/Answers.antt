use Rattle.std.proofs.Common.{refl}
use Rattle.smith_format.specs.Piece.{byte}
use Rattle.smith_print.proofs.Following.{passes_then}
use Rattle.smith_print.proofs.passing.pass_behind.Goals as goal

pub returns : goal.returns
returns g c = λ tag piece x told.
    passes_then c.pass_read.result (byte tag) (piece x) c.args.bytes.now c.in_ok-rest.rest.now (c.in_ok-rest.ensures {u = tt} (byte tag) refl)
    (c.pass_read.ensures piece x told)
