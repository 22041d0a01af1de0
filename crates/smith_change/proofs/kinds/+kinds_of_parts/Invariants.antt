use Rattle.std.proofs.Common.{◌≡◌, drop, map}
use Rattle.smith_tree.specs.Tree.{tree_of}
use Rattle.smith_read.specs.PartNodes.{shown_part_node}
use Rattle.smith_change.specs.Parts.{places}
use Rattle.smith_read.specs.Search.{past}
use Rattle.smith_change.proofs.KindFound.{is_among}
use Rattle.smith_change.proofs.kinds.+kinds_of_parts.Given as goal

abbrev pub invariant-kind_in_parts-loop-node : goal.invariant-kind_in_parts-loop-node
invariant-kind_in_parts-loop-node l = record {
  found : is_among (places (tree_of (map shown_part_node (drop l.node-index l.nodes)))) l.search
      ≡ is_among (places (tree_of (map shown_part_node l.nodes))) l.initial.search;
  moved : past (places (tree_of (map shown_part_node (drop l.node-index l.nodes)))) l.search
      ≡ past (places (tree_of (map shown_part_node l.nodes))) l.initial.search;
}
