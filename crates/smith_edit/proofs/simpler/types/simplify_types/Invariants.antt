use Rattle.std.proofs.Common.{◌≡◌, drop, map}
use Rattle.smith_read.specs.TypeNodes.{shown_type_node}
use Rattle.smith_edit.specs.Items.{entry_items, row_items}
use Rattle.smith_read.specs.Search.{past}
use Rattle.smith_edit.proofs.Seeking.{after_these, seek, type_row}
use Rattle.smith_edit.proofs.simpler.types.simplify_types.Given as goal

abbrev pub invariant-loop-node : goal.invariant-loop-node
invariant-loop-node l = record {
  types : after_these type_row (map shown_type_node l.types.items) l.finder.search (map shown_type_node (drop l.node-index l.nodes))
      ≡ seek type_row l.initial.finder.search (map shown_type_node l.nodes);
  moved : past (row_items entry_items (map shown_type_node (drop l.node-index l.nodes))) l.finder.search
      ≡ past (row_items entry_items (map shown_type_node l.nodes)) l.initial.finder.search;
}
