use Rattle.std.proofs.Common.{◌≡◌, ◌+◌, drop, map}
use Rattle.smith_syntax.specs.Entries.{in_order}
use Rattle.smith_read.specs.TypeNodes.{shown_decl_node}
use Rattle.smith_edit.specs.Items.{decls_items}
use Rattle.smith_edit.proofs.items.+counting.Given as goal

abbrev pub invariant-declarations_items-loop-node : goal.invariant-declarations_items-loop-node
invariant-declarations_items-loop-node l =
    l.count + decls_items (in_order (map shown_decl_node (drop l.node-index l.nodes))) ≡ decls_items (in_order (map shown_decl_node l.nodes))
