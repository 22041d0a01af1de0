use Rattle.std.proofs.Common.{◌≤◌, length}
use Rattle.smith_reduce.proofs.Loops.{IfRest}
use Rattle.smith_reduce.proofs.fits.types.are_short.Given as goal

abbrev pub invariant-loop-item : goal.invariant-loop-item
invariant-loop-item g l = IfRest (λ n. length n ≤ l.config.max_name_length) g.T.Labelled.text l.items l.item-index
