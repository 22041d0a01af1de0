use Rattle.std.proofs.Common.{drop, map, Option, ℕ}
use Rattle.smith_read.specs.PartNodes.{shown_part_node}
use Rattle.smith_tree.specs.Tree.{tree_of}
use Rattle.smith_edit.proofs.NextComponent.{FirstAmong}
use Rattle.smith_edit.proofs.simpler.components.+finding_next.Given as goal

abbrev pub invariant-first_among-loop-node : goal.invariant-first_among-loop-node
invariant-first_among-loop-node l =
    (o : Option ℕ) → FirstAmong (tree_of (map shown_part_node (drop l.node-index l.nodes))) l.next l.from o
    → FirstAmong (tree_of (map shown_part_node l.nodes)) l.number l.from o
