use Rattle.std.proofs.Common.{◌≡◌, drop, map}
use Rattle.smith_tree.specs.Tree.{tree_of}
use Rattle.smith_read.specs.PartNodes.{shown_part_node}
use Rattle.smith_edit.specs.Items.{tree_items}
use Rattle.smith_read.specs.Search.{past}
use Rattle.smith_edit.proofs.Nested.{look}
use Rattle.smith_edit.proofs.simpler.+finding.Given as goal

abbrev pub invariant-component_at-loop-node : goal.invariant-component_at-loop-node
invariant-component_at-loop-node l = record {
  component : look l.search (tree_of (map shown_part_node (drop l.node-index l.nodes))) ≡ look l.initial.search (tree_of (map shown_part_node l.nodes));
  moved : past (tree_items (tree_of (map shown_part_node (drop l.node-index l.nodes)))) l.search
      ≡ past (tree_items (tree_of (map shown_part_node l.nodes))) l.initial.search;
}
