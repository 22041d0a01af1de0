use Rattle.std.proofs.Common.{◌≡◌, ◌∷◌, ◌≤◌, ◌-◌, drop, map}
use Rattle.smith_syntax.specs.Entries.{in_order}
use Rattle.smith_syntax.specs.Marked.{empty_marked}
use Rattle.smith_scopes.specs.NodeScopes.{outer_marked_in, own_marked_in}
use Rattle.smith_read.specs.TypeNodes.{shown_decl_node}
use Rattle.smith_tree.specs.TypeScript.{none_taken, script_decls}
use Rattle.smith_script_types.proofs.Saying.{Towards}
use Rattle.smith_script_types.specs.Declaring.{taken_in}
use Rattle.smith_script_types.proofs.Decls.{cost_from, scope_after}
use Rattle.smith_script_types.proofs.types.+types.Given as goal

abbrev pub invariant-say_decls-loop-decl : goal.invariant-say_decls-loop-decl
invariant-say_decls-loop-decl l = record {
  few_imports : l.here.imports ≤ l.decl-index;
  few_exports : l.here.exports ≤ l.decl-index;
  importing : l.here.importing ≡ l.fn.start.importing;
  outer : outer_marked_in l.scopes ≡ own_marked_in l.fn.scopes ∷ outer_marked_in l.fn.scopes;
  cost : l.here.fuel - cost_from l.decls l.decl-index ≡ l.fn.start.fuel - cost_from l.decls 0;
  after : scope_after l.decls l.decl-index (own_marked_in l.fn.scopes ∷ outer_marked_in l.fn.scopes) (own_marked_in l.scopes)
      ≡ scope_after l.decls 0 (own_marked_in l.fn.scopes ∷ outer_marked_in l.fn.scopes) (empty_marked (own_marked_in l.fn.scopes).keeps);
  left : Towards l.initial.out l.out
      (script_decls (in_order (map shown_decl_node l.decls)) l.given.config.now l.fn.start.importing l.fn.start.fuel
      0 none_taken (empty_marked (own_marked_in l.fn.scopes).keeps)
      (own_marked_in l.fn.scopes ∷ outer_marked_in l.fn.scopes))
      (script_decls (in_order (map shown_decl_node (drop l.decl-index l.decls))) l.given.config.now l.fn.start.importing l.here.fuel l.decl-index
      (taken_in l.here) (own_marked_in l.scopes) (own_marked_in l.fn.scopes ∷ outer_marked_in l.fn.scopes));
}
