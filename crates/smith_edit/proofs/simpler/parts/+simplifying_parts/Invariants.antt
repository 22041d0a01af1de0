use Rattle.std.proofs.Common.{◌≡◌, drop, map}
use Rattle.smith_tree.specs.Tree.{exports_of, imports_of, tree_of}
use Rattle.smith_tree.specs.WellFormed.{export_names, import_names}
use Rattle.smith_read.specs.PartNodes.{shown_part_node}
use Rattle.smith_edit.specs.Items.{tree_items}
use Rattle.smith_read.specs.Search.{past}
use Rattle.smith_edit.proofs.Seeking.{after_these, seek, part_row}
use Rattle.smith_edit.proofs.simpler.parts.+simplifying_parts.Given as goal

abbrev pub invariant-simplify_parts-loop-node : goal.invariant-simplify_parts-loop-node
invariant-simplify_parts-loop-node l =
    let all = tree_of (map shown_part_node l.nodes) in
    let row = part_row (import_names (imports_of all)) (export_names (exports_of all)) in
    record {
      parts : after_these row (map shown_part_node l.parts.items) l.finder.search (map shown_part_node (drop l.node-index l.nodes))
          ≡ seek row l.initial.finder.search all;
      moved : past (tree_items (tree_of (map shown_part_node (drop l.node-index l.nodes)))) l.finder.search ≡ past (tree_items all) l.initial.finder.search;
    }
