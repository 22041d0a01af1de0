use Rattle.std.proofs.Common.{[], length, map, take}
use Rattle.std.proofs.Math.ListN.{drop}
use Rattle.smith_syntax.specs.ModuleTypes.{HasNewNames}
use Rattle.smith_syntax.specs.Possible.{PossibleModule}
use Rattle.smith_syntax.specs.WellFormed.{FormedDecls}
use Rattle.smith_read.specs.Nodes.{shown_module_node}
use Rattle.smith_scopes.specs.NodeScopes.{outer_in, own_in}
use Rattle.smith_check.specs.Preceding.{functions_in}
use Rattle.smith_check.specs.Taken.{HoldsModule}
use Rattle.smith_check.proofs.Judging.{Same}
use Rattle.smith_check.proofs.modules.check_module.Given as goal

abbrev pub invariant-loop-decl : goal.invariant-loop-decl
invariant-loop-decl l = record {
  left : Same (FormedDecls (own_in l.scopes).core_types [] (map shown_module_node l.decls))
      (FormedDecls (own_in l.scopes).core_types (functions_in l.own.items) (map shown_module_node (drop l.decl-index l.decls)));
  may : PossibleModule (own_in l.scopes).core_types (length (outer_in l.scopes)) [] (map shown_module_node l.decls)
      → PossibleModule (own_in l.scopes).core_types (length (outer_in l.scopes)) (functions_in l.own.items)
      (map shown_module_node (drop l.decl-index l.decls));
  holds : HoldsModule l.names (map shown_module_node (take l.decl-index l.decls));
  new : HasNewNames (map shown_module_node (take l.decl-index l.decls));
}
