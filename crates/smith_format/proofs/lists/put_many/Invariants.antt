use Rattle.smith_format.proofs.Many.{Put}
use Rattle.smith_format.proofs.lists.put_many.Given as goal

abbrev pub invariant-loop-item : goal.invariant-loop-item
invariant-loop-item g l = Put g.T.Spelled.piece l.items l.item-index l.initial.out l.out
