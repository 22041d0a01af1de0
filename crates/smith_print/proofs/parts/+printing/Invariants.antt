use Rattle.smith_print.proofs.Sections.{Going}
use Rattle.smith_print.proofs.parts.+printing.Given as goal
use Rattle.smith_print.specs.Words.{deeper}

abbrev pub invariant-print_component-loop-node : goal.invariant-print_component-loop-node
invariant-print_component-loop-node l = Going l.nodes (deeper l.columns) l.node-index l.initial.out l.out l.initial.spaces l.spaces
    l.initial.offsets.left.now l.offsets.left.now
