use Rattle.smith_format.specs.Piece.{bytes}
use Rattle.smith_format.proofs.Clear.{clear_sized, exact_bytes}
use Rattle.smith_format.proofs.laws.sections_are_clear.Goals as goal

pub returns-clause-contents : goal.returns-clause-contents
returns-clause-contents g c = λ id. clear_sized bytes exact_bytes id
