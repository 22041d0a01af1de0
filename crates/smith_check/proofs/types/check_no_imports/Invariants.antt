use Rattle.std.proofs.Common.{◌≡◌, map}
use Rattle.std.proofs.Math.ListN.{drop}
use Rattle.smith_syntax.specs.Entries.{in_order}
use Rattle.smith_syntax.specs.WellFormed.{decl_imports}
use Rattle.smith_read.specs.TypeNodes.{shown_decl_node}
use Rattle.smith_check.proofs.types.check_no_imports.Given as goal

abbrev pub invariant-loop-decl : goal.invariant-loop-decl
invariant-loop-decl l = decl_imports (in_order (map shown_decl_node l.decls)) ≡ decl_imports (in_order (map shown_decl_node (drop l.decl-index l.decls)))
