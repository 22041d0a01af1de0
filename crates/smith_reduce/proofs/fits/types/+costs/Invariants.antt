use Rattle.std.proofs.Common.{◌≡◌, ◌+◌, drop, map}
use Rattle.smith_syntax.specs.Entries.{in_order}
use Rattle.smith_tree.specs.TypeNeeds.{decls_cost}
use Rattle.smith_read.specs.TypeNodes.{shown_decl_node}
use Rattle.smith_reduce.proofs.fits.types.+costs.Given as goal

abbrev pub invariant-decls_cost-loop-decl : goal.invariant-decls_cost-loop-decl
invariant-decls_cost-loop-decl l =
    l.cost + decls_cost (in_order (map shown_decl_node (drop l.decl-index l.decls))) ≡ decls_cost (in_order (map shown_decl_node l.decls))
