use Rattle.std.proofs.Common.{◌≡◌, drop, map}
use Rattle.smith_syntax.specs.Entries.{in_order, then_decls}
use Rattle.smith_read.specs.TypeNodes.{shown_decl_node}
use Rattle.smith_edit.specs.Edited.{decls_edited}
use Rattle.smith_edit.specs.Items.{decls_items}
use Rattle.smith_edit.specs.Removal.{past}
use Rattle.smith_edit.specs.Walk.{shown_walk}
use Rattle.smith_edit.proofs.Seeking.{prepend}
use Rattle.smith_edit.proofs.types.+editing.Given as goal

abbrev pub invariant-edit_declarations-loop-node : goal.invariant-edit_declarations-loop-node
invariant-edit_declarations-loop-node l = record {
  left : prepend then_decls (map shown_decl_node l.left.items)
      (decls_edited (in_order (map shown_decl_node (drop l.node-index l.nodes))) (shown_walk l.walk))
      ≡ decls_edited (in_order (map shown_decl_node l.nodes)) (shown_walk l.initial.walk);
  removal : past (decls_items (in_order (map shown_decl_node (drop l.node-index l.nodes)))) l.walk.removal
      ≡ past (decls_items (in_order (map shown_decl_node l.nodes))) l.initial.walk.removal;
  outer : (shown_walk l.walk).outer ≡ (shown_walk l.initial.walk).outer;
}
