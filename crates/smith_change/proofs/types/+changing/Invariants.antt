use Rattle.std.proofs.Common.{◌≡◌, drop, map}
use Rattle.smith_syntax.specs.Entries.{in_order}
use Rattle.smith_read.specs.TypeNodes.{shown_decl_node}
use Rattle.smith_change.specs.Owners.{may_import}
use Rattle.smith_read.specs.Search.{past}
use Rattle.smith_change.specs.Types.{decls_places}
use Rattle.smith_change.proofs.InRow.{after_these, seek}
use Rattle.smith_change.proofs.RowsOf.{decl_row}
use Rattle.smith_change.proofs.types.+changing.Given as goal

abbrev pub invariant-change_declarations-loop-index : goal.invariant-change_declarations-loop-index
invariant-change_declarations-loop-index l =
    let row = decl_row (may_import l.owner) l.change.alternative in
    let all = in_order (map shown_decl_node l.nodes) in
    record {
      declarations : after_these row (map shown_decl_node l.done.items) l.search (map shown_decl_node (drop l.index l.nodes)) ≡ seek row l.initial.search all;
      moved : past (decls_places (in_order (map shown_decl_node (drop l.index l.nodes)))) l.search ≡ past (decls_places all) l.initial.search;
    }
