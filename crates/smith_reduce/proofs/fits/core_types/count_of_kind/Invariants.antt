use Rattle.std.proofs.Common.{◌≡◌, ◌+◌, ◌≤◌, drop, map}
use Rattle.smith_syntax.specs.ModuleTypes.{count_of_kind}
use Rattle.smith_read.specs.Nodes.{shown_module_node}
use Rattle.smith_reduce.proofs.fits.core_types.count_of_kind.Given as goal

abbrev pub invariant-loop-decl : goal.invariant-loop-decl
invariant-loop-decl l = record {
  counted : l.count + count_of_kind l.kind (map shown_module_node (drop l.decl-index l.decls)) ≡ count_of_kind l.kind (map shown_module_node l.decls);
  few : l.count ≤ l.decl-index;
}
