use Rattle.smith_print.proofs.Placing.{Reaching}
use Rattle.smith_print.proofs.offsets.place_list.Given as goal

abbrev pub invariant-loop-entry : goal.invariant-loop-entry
invariant-loop-entry g l =
    Reaching g.T.Passed.piece l.total l.entries l.entry-index l.initial.rest l.rest l.initial.offsets.items l.offsets.items
