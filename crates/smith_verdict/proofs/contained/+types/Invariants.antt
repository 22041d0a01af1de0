use Rattle.std.proofs.Common.{map}
use Rattle.std.proofs.Math.ListN.{drop}
use Rattle.smith_syntax.specs.Entries.{in_order}
use Rattle.smith_read.specs.TypeNodes.{shown_decl_node}
use Rattle.smith_check.proofs.Judging.{Same}
use Rattle.smith_verdict.specs.Contained.{IsPlainContent, IsWithinBounds, OfDecls}
use Rattle.smith_verdict.proofs.contained.+types.Given as goal

abbrev pub invariant-check_decls-loop-decl : goal.invariant-check_decls-loop-decl
invariant-check_decls-loop-decl l = record {
  plain : Same (OfDecls IsPlainContent (in_order (map shown_decl_node l.decls)))
      (OfDecls IsPlainContent (in_order (map shown_decl_node (drop l.decl-index l.decls))));
  bounded : Same (OfDecls IsWithinBounds (in_order (map shown_decl_node l.decls)))
      (OfDecls IsWithinBounds (in_order (map shown_decl_node (drop l.decl-index l.decls))));
}
