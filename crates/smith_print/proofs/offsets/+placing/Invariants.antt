use Rattle.smith_print.proofs.Placing.{PartsReaching}
use Rattle.smith_print.proofs.offsets.+placing.Given as goal

abbrev pub invariant-place_parts-loop-node : goal.invariant-place_parts-loop-node
invariant-place_parts-loop-node l =
    PartsReaching l.total l.nodes l.node-index l.initial.rest l.rest l.initial.offsets.items l.offsets.items
