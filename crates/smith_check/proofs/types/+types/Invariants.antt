use Rattle.std.proofs.Common.{◌≡◌, ◌∷◌, map, take}
use Rattle.std.proofs.Math.ListN.{drop}
use Rattle.smith_syntax.specs.Entries.{in_order}
use Rattle.smith_syntax.specs.Scope.{empty_scope}
use Rattle.smith_syntax.specs.Possible.{PossibleDeclarations}
use Rattle.smith_syntax.specs.WellFormed.{FormedDeclarations}
use Rattle.smith_read.specs.TypeNodes.{shown_decl_node}
use Rattle.smith_scopes.specs.NodeScopes.{outer_in, own_in}
use Rattle.smith_check.specs.Taken.{KnowsDeclared}
use Rattle.smith_check.proofs.Judging.{Same}
use Rattle.smith_check.proofs.types.+types.Given as goal

abbrev pub invariant-check_decls-loop-decl : goal.invariant-check_decls-loop-decl
invariant-check_decls-loop-decl l = record {
  outer : outer_in l.scopes ≡ own_in l.fn.scopes ∷ outer_in l.fn.scopes;
  left : Same (FormedDeclarations (in_order (map shown_decl_node l.decls)) empty_scope (outer_in l.scopes))
      (FormedDeclarations (in_order (map shown_decl_node (drop l.decl-index l.decls))) (own_in l.scopes) (outer_in l.scopes));
  may : PossibleDeclarations (in_order (map shown_decl_node l.decls)) empty_scope (outer_in l.scopes)
      → PossibleDeclarations (in_order (map shown_decl_node (drop l.decl-index l.decls))) (own_in l.scopes) (outer_in l.scopes);
  knows : KnowsDeclared l.names (take l.decl-index l.decls);
}
