use Rattle.std.proofs.Common.{arith, ◌∙◌}
use Rattle.smith_format.proofs.Piece.{left_nil}
use Rattle.smith_tree.proofs.Clear.{spells_only}
use Rattle.smith_component.proofs.component.Component.written.Goals as goal

pub returns-clause-reading : goal.returns-clause-reading
returns-clause-reading c t = grind (arith, spells_only, left_nil)
