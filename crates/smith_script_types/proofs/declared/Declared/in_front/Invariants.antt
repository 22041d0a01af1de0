use Rattle.std.proofs.Common.{map, take}
use Rattle.smith_syntax.specs.ModuleTypes.{declared_in}
use Rattle.smith_read.specs.Nodes.{shown_module_node}
use Rattle.smith_script_types.specs.Tables.{Keeps}
use Rattle.smith_script_types.proofs.declared.Declared.in_front.Given as goal

abbrev pub invariant-loop-decl : goal.invariant-loop-decl
invariant-loop-decl l =
    Keeps l.tables (declared_in (map shown_module_node (take l.decl-index l.decls))) (map shown_module_node (take l.decl-index l.decls))
