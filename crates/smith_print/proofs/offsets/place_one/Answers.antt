use Rattle.std.proofs.Common.{Some, refl}
use Rattle.smith_print.proofs.Placing.{placed_one}
use Rattle.smith_print.proofs.offsets.place_one.Goals as goal

pub returns : goal.returns
returns c = λ rest contents long e.
    placed_one c.pass_bytes.result rest _ _ _ _ (c.pass_bytes.ensures (Some contents) long rest e) (c.in_ok-place.ensures {u = tt}) refl
