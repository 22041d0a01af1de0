use Rattle.std.proofs.Common.{drop, map}
use Rattle.std.specs.List.{flat_map}
use Rattle.smith_syntax.specs.ModuleTypes.{entities_of}
use Rattle.smith_read.specs.Nodes.{shown_module_node}
use Rattle.smith_tree.specs.ModuleScript.{script_asked}
use Rattle.smith_script_types.proofs.Saying.{Towards}
use Rattle.smith_script_types.proofs.module_fronts.say_all_asked.Given as goal

abbrev pub invariant-loop-decl : goal.invariant-loop-decl
invariant-loop-decl l =
    Towards l.initial.out l.out (flat_map script_asked (entities_of (map shown_module_node l.decls)))
    (flat_map script_asked (entities_of (map shown_module_node (drop l.decl-index l.decls))))
