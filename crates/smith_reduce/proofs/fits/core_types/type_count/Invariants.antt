use Rattle.std.proofs.Common.{◌≡◌, ◌+◌, ◌≤◌, drop, map}
use Rattle.smith_syntax.specs.ModuleTypes.{type_count}
use Rattle.smith_read.specs.Nodes.{shown_module_node}
use Rattle.smith_reduce.proofs.fits.core_types.type_count.Given as goal

abbrev pub invariant-loop-decl : goal.invariant-loop-decl
invariant-loop-decl l = record {
  counted : l.count + type_count (map shown_module_node (drop l.decl-index l.decls)) ≡ type_count (map shown_module_node l.decls);
  few : l.count ≤ l.decl-index;
}
