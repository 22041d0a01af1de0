use Rattle.std.proofs.Common.{◌≡◌, ◌++◌, drop, map}
use Rattle.smith_read.specs.PartNodes.{shown_part_node}
use Rattle.smith_change.proofs.copies.+copying_parts.Given as goal

abbrev pub invariant-copy_parts-loop-node : goal.invariant-copy_parts-loop-node
invariant-copy_parts-loop-node l =
    map shown_part_node l.copies.items ++ map shown_part_node (drop l.node-index l.nodes) ≡ map shown_part_node l.nodes
