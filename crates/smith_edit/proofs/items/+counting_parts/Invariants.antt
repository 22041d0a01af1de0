use Rattle.std.proofs.Common.{◌≡◌, ◌+◌, drop, map}
use Rattle.smith_tree.specs.Tree.{tree_of}
use Rattle.smith_read.specs.PartNodes.{shown_part_node}
use Rattle.smith_edit.specs.Items.{tree_items}
use Rattle.smith_edit.proofs.items.+counting_parts.Given as goal

abbrev pub invariant-parts_items-loop-node : goal.invariant-parts_items-loop-node
invariant-parts_items-loop-node l =
    l.count + tree_items (tree_of (map shown_part_node (drop l.node-index l.nodes))) ≡ tree_items (tree_of (map shown_part_node l.nodes))
