use Rattle.std.proofs.Common.{List, map, ap, refl, subst, sym, ◌∙◌}
use Rattle.std.specs.Option.{IsSome, option_map}
use Rattle.smith_tree.specs.Tree.{Part, Tree, exports_of, imports_of, tree_of}
use Rattle.smith_tree.specs.WellFormed.{export_names, import_names}
use Rattle.smith_read.specs.PartNodes.{shown_part_node}
use Rattle.smith_read.specs.declared.nodes.PartNode.{PartNode}
use Rattle.smith_edit.proofs.Seeking.{InRow, moved_step, seek_end, seek_step, part_row}
use Rattle.smith_edit.proofs.simpler.parts.+simplifying_parts.Goals as goal

-- these sections as a row
abbrev row_of : List PartNode → InRow PartNode Part Tree
row_of nodes = part_row (import_names (imports_of (tree_of (map shown_part_node nodes)))) (export_names (exports_of (tree_of (map shown_part_node nodes))))

pub simplify_parts-loop-node-preserved : goal.simplify_parts-loop-node-preserved
simplify_parts-loop-node-preserved t c =
    let is = sym (ap (option_map shown_part_node) c.in-Some.is) ∙ c.in_ok-part.ensures.part in
    let on = c.in_ok-part.ensures.moved (subst IsSome (sym c.in-Some.is) refl) in
    record {
      parts = seek_step (row_of c.args.nodes.now) c.loop-node.finder.search c.args.nodes.now c.loop-node.node-index c.node-item.result
          c.loop-node-test.true c.node-item.is c.simplify_part.new.finder.search c.loop-node.parts.items c.push.new.self.items c.in-Some.part _
          is on c.in_ok-push.ensures.items c.loop-node.invariant.parts;
      moved = moved_step (row_of c.args.nodes.now) c.loop-node.finder.search c.args.nodes.now c.loop-node.node-index c.node-item.result
          c.loop-node-test.true c.node-item.is c.simplify_part.new.finder.search _ on c.loop-node.invariant.moved;
    }

pub simplify_parts-returns-clause-parts : goal.simplify_parts-returns-clause-parts
simplify_parts-returns-clause-parts t c =
    seek_end (row_of c.args.nodes.now) c.loop-node.finder.search c.args.nodes.now c.loop-node.node-index (map shown_part_node c.loop-node.parts.items) _
    c.loop-node-test.false c.loop-node.invariant.parts
