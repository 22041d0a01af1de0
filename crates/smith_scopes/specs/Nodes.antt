-- Scopes of types that were read, one in another.
use Rattle.std.specs.Prelude.{◌≡◌, ℕ, Bool, List, map, slice_get, Some}
use Rattle.std.specs.Borrow.{Bor}
use Rattle.smith_syntax.specs.Scope.{Scope as PlainScope}
use Rattle.smith_syntax.specs.Marked.{Marked, MarkedOf, scope_in}
use Rattle.smith_scope.specs.Positions.{plain_marked, plain_scope}
use Rattle.smith_read.specs.Nodes.{shown_core_node}
use Rattle.smith_read.specs.TypeNodes.{shown_type_node}
use Rattle.smith_read.specs.declared.core_types.CoreNode.{CoreNode}
use Rattle.smith_read.specs.declared.type_nodes.TypeNode.{TypeNode}

-- a scope of nodes, and what is kept of it
abbrev pub Contents : Type 0
Contents = MarkedOf TypeNode CoreNode

-- the same as plain trees
abbrev pub shown_marked : Contents → Marked
shown_marked s = plain_marked shown_type_node shown_core_node s

-- and without what is kept
abbrev pub shown_scope : Contents → PlainScope
shown_scope s = plain_scope shown_type_node shown_core_node (scope_in s)

-- the nodes that these refer to
abbrev pub nodes_of : {X : Type 0} → List (Bor X) → List X
nodes_of bs = map (λ b. b.now) bs

-- In each of these scopes something is kept, or in none.
abbrev pub AreAlike : Bool → List Contents → Type 0
AreAlike keeps ss = (i : ℕ) → (s : Contents) → slice_get ss i ≡ Some s → s.keeps ≡ keeps
