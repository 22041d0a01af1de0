use Rattle.std.proofs.Common.{sym, ◌∙◌}
use Rattle.smith_format.proofs.Piece.{left_nil}
use Rattle.smith_core.proofs.module.Module.to_bytes.Goals as goal

pub returns-clause-written : goal.returns-clause-written
returns-clause-written c =
    let gains = c.in_ok-fill.ensures.puts in
    let g = rw c.in_ok-out.ensures.items at gains.is in
    sym (g ∙ left_nil _)
