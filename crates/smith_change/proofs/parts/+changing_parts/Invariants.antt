use Rattle.std.proofs.Common.{◌≡◌, drop, map}
use Rattle.smith_tree.specs.Tree.{tree_of}
use Rattle.smith_read.specs.PartNodes.{shown_part_node}
use Rattle.smith_change.specs.Parts.{places}
use Rattle.smith_read.specs.Search.{past}
use Rattle.smith_change.proofs.InRow.{after_these, seek}
use Rattle.smith_change.proofs.RowsOf.{part_row}
use Rattle.smith_change.proofs.parts.+changing_parts.Given as goal

abbrev pub invariant-change_parts-loop-index : goal.invariant-change_parts-loop-index
invariant-change_parts-loop-index l =
    let row = part_row l.change.alternative in
    let all = tree_of (map shown_part_node l.nodes) in
    record {
      parts : after_these row (map shown_part_node l.done.items) l.search (map shown_part_node (drop l.index l.nodes)) ≡ seek row l.initial.search all;
      moved : past (places (tree_of (map shown_part_node (drop l.index l.nodes)))) l.search ≡ past (places all) l.initial.search;
    }
