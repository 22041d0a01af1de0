use Rattle.std.proofs.Common.{◌≡◌, drop, map}
use Rattle.smith_read.specs.PartNodes.{shown_part_node}
use Rattle.smith_tree.specs.Tree.{first, tree_of}
use Rattle.smith_edit.specs.Edited.{tree_edited}
use Rattle.smith_edit.specs.Items.{tree_items}
use Rattle.smith_edit.specs.Removal.{past}
use Rattle.smith_edit.specs.Walk.{shown_walk}
use Rattle.smith_edit.proofs.Seeking.{prepend}
use Rattle.smith_edit.proofs.parts.+parts.Given as goal

abbrev pub invariant-edit_parts-loop-node : goal.invariant-edit_parts-loop-node
invariant-edit_parts-loop-node l = record {
  left : prepend first (map shown_part_node l.left.items)
      (tree_edited (tree_of (map shown_part_node (drop l.node-index l.nodes))) (shown_walk l.walk))
      ≡ tree_edited (tree_of (map shown_part_node l.nodes)) (shown_walk l.initial.walk);
  removal : past (tree_items (tree_of (map shown_part_node (drop l.node-index l.nodes)))) l.walk.removal
      ≡ past (tree_items (tree_of (map shown_part_node l.nodes))) l.initial.walk.removal;
  outer : (shown_walk l.walk).outer ≡ (shown_walk l.initial.walk).outer;
}
