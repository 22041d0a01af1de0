use Rattle.smith_format.proofs.Many.{Put}
use Rattle.smith_read.proofs.writing.lists.put_list.Given as goal

abbrev pub invariant-loop-item : goal.invariant-loop-item
invariant-loop-item g l = Put g.T.Written.piece l.items l.item-index l.initial.out l.out
