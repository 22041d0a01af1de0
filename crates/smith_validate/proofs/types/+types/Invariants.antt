use Rattle.std.proofs.Common.{◌≡◌, ◌∷◌, ◌++◌, [], Bool, List, length, map, take}
use Rattle.smith_syntax.specs.Entries.{in_order}
use Rattle.smith_tree.specs.Bodies.{empty_body}
use Rattle.smith_tree.specs.Demands.{everything}
use Rattle.smith_tree.specs.Facts.{FactScope, Id, id_at}
use Rattle.smith_tree.specs.Validates.{ValidDecls}
use Rattle.smith_read.specs.TypeNodes.{shown_decl_node}
use Rattle.smith_validate.specs.Bodies.{IsBody, IsEmpty, IsFresh, IsIn}
use Rattle.smith_validate.specs.Exact.{AreKnown, IsBodyExactlyNow}
use Rattle.smith_validate.specs.Instances.{Surface}
use Rattle.smith_validate.specs.Kept.{types_in}
use Rattle.smith_validate.specs.Steps.{Later}
use Rattle.smith_validate.specs.Usual.{AreUsualDecls}
use Rattle.smith_validate.proofs.DeclSteps.{decls_before}
use Rattle.smith_validate.proofs.types.+types.Given as goal

abbrev pub invariant-add_decls-loop-decl : goal.invariant-add_decls-loop-decl
invariant-add_decls-loop-decl l = record {
  outer : l.known.scopes.outer.items ≡ l.fn.known.scopes.outer.items ++ l.fn.known.scopes.own ∷ [];
  judged : (asks : Bool) (own : FactScope) (outer : List FactScope) (here : List Id) (names : List (List Id)) (table : List Surface)
      → IsIn l.fn.known own outer here names table → IsEmpty l.fn.body → IsFresh asks l.fn.body.role
      → ValidDecls everything asks (in_order (map shown_decl_node (take l.decl-index l.decls))) (own ∷ outer) empty_body
      × Later (IsBody asks l.known l.body) (decls_before asks (own ∷ outer) l.decls l.decl-index) (own ∷ outer) (here ∷ names) table;
  exact : (asks : Bool) (own : FactScope) (outer : List FactScope) (named : List Id) (table : List Surface)
      → AreKnown (types_in l.fn.known) l.fn.known.instances.items (own ∷ outer) named table → length outer ≡ length l.fn.known.scopes.outer.items
      → IsFresh asks l.fn.body.role → AreUsualDecls asks (in_order (map shown_decl_node l.decls)) (own ∷ outer) empty_body
      → IsBodyExactlyNow asks l.known l.body (decls_before asks (own ∷ outer) l.decls l.decl-index) (own ∷ outer) named (id_at (own ∷ outer)) table;
}
