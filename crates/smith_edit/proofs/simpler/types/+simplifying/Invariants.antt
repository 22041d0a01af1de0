use Rattle.std.proofs.Common.{◌≡◌, drop, map}
use Rattle.smith_syntax.specs.Entries.{in_order}
use Rattle.smith_syntax.specs.WellFormed.{decl_exports, decl_imports, names}
use Rattle.smith_read.specs.TypeNodes.{shown_decl_node}
use Rattle.smith_edit.specs.Items.{decls_items}
use Rattle.smith_read.specs.Search.{past}
use Rattle.smith_edit.proofs.Seeking.{after_these, seek, decl_row}
use Rattle.smith_edit.proofs.simpler.types.+simplifying.Given as goal

abbrev pub invariant-simplify_declarations-loop-node : goal.invariant-simplify_declarations-loop-node
invariant-simplify_declarations-loop-node l =
    let all = in_order (map shown_decl_node l.nodes) in
    let row = decl_row (names (decl_imports all)) (names (decl_exports all)) in
    record {
      declarations : after_these row (map shown_decl_node l.declarations.items) l.finder.search (map shown_decl_node (drop l.node-index l.nodes))
          ≡ seek row l.initial.finder.search all;
      moved : past (decls_items (in_order (map shown_decl_node (drop l.node-index l.nodes)))) l.finder.search ≡ past (decls_items all) l.initial.finder.search;
    }
