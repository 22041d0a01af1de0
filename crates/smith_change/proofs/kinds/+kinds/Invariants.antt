use Rattle.std.proofs.Common.{◌≡◌, drop, map}
use Rattle.smith_syntax.specs.Entries.{in_order}
use Rattle.smith_read.specs.TypeNodes.{shown_decl_node}
use Rattle.smith_change.specs.Types.{decls_places}
use Rattle.smith_read.specs.Search.{past}
use Rattle.smith_change.proofs.KindFound.{is_among}
use Rattle.smith_change.proofs.kinds.+kinds.Given as goal

abbrev pub invariant-kind_in_declarations-loop-node : goal.invariant-kind_in_declarations-loop-node
invariant-kind_in_declarations-loop-node l = record {
  found : is_among (decls_places (in_order (map shown_decl_node (drop l.node-index l.nodes)))) l.search
      ≡ is_among (decls_places (in_order (map shown_decl_node l.nodes))) l.initial.search;
  moved : past (decls_places (in_order (map shown_decl_node (drop l.node-index l.nodes)))) l.search
      ≡ past (decls_places (in_order (map shown_decl_node l.nodes))) l.initial.search;
}
