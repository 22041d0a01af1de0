use Rattle.std.proofs.Common.{Some, Ok}
use Rattle.smith_format.specs.Piece.{◌⊕◌, u}
use Rattle.smith_read.proofs.Telling.{tells_u}
use Rattle.smith_read.specs.Reading.{u_at}
use Rattle.smith_print.proofs.Following.{passes_then, read_past}
use Rattle.smith_print.proofs.passing.pass_outer.Goals as goal

pub returns : goal.returns
returns c = λ front count index long.
    passes_then (Ok c.in_ok-_index.rest) (Some front) (u count ⊕ u index) c.args.bytes.now c.in_ok-rest.rest.now
    (c.in_ok-rest.ensures {u = tt} (Some front) long)
    (passes_then (Ok c.in_ok-_index.rest) (u count) (u index) c.in_ok-rest.rest.now c.in_ok-_count.rest.now
    (λ rest e. read_past u u_at tells_u count _ _ _ rest (c.in_ok-_count.ensures {u = tt}) e)
    (λ rest e. read_past u u_at tells_u index _ _ _ rest (c.in_ok-_index.ensures {u = tt}) e))
