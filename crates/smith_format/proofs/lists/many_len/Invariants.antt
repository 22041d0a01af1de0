use Rattle.smith_format.proofs.Sizes.{Sum}
use Rattle.smith_format.proofs.lists.many_len.Given as goal

abbrev pub invariant-loop-item : goal.invariant-loop-item
invariant-loop-item g l = Sum g.T.Spelled.piece l.items l.item-index l.total
