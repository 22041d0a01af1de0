use Rattle.std.proofs.Common.{map}
use Rattle.std.specs.List.{AllByRecursion}
use Rattle.smith_read.specs.Nodes.{shown_module_node}
use Rattle.smith_check.proofs.Judging.{AllLeft, Same}
use Rattle.smith_verdict.specs.Contained.{IsPlainContent, IsWithinBounds, OfModuleDecl}
use Rattle.smith_verdict.proofs.contained.check_module_decls.Given as goal

abbrev pub invariant-loop-decl : goal.invariant-loop-decl
invariant-loop-decl l = record {
  plain : Same (AllByRecursion (OfModuleDecl IsPlainContent) (map shown_module_node l.decls))
      (AllLeft (OfModuleDecl IsPlainContent) shown_module_node l.decls l.decl-index);
  bounded : Same (AllByRecursion (OfModuleDecl IsWithinBounds) (map shown_module_node l.decls))
      (AllLeft (OfModuleDecl IsWithinBounds) shown_module_node l.decls l.decl-index);
}
