-- The innermost scope of types that were read, and those around it.
use Rattle.std.specs.Prelude.{List, map, reverse}
use Rattle.smith_syntax.specs.Scope.{Scope as PlainScope}
use Rattle.smith_syntax.specs.Marked.{Marked}
use Rattle.smith_scopes.specs.declared.nodes.NodeScopes.{NodeScopes}
pub use Rattle.smith_scopes.specs.Nodes.{nodes_of, shown_marked, shown_scope}

-- the innermost scope, and those around it, innermost first
abbrev pub own_in : NodeScopes → PlainScope
own_in s = shown_scope s.nest.own

abbrev pub outer_in : NodeScopes → List PlainScope
outer_in s = reverse (map shown_scope s.nest.outer.items)

-- the same with what is kept of them

abbrev pub own_marked_in : NodeScopes → Marked
own_marked_in s = shown_marked s.nest.own

abbrev pub outer_marked_in : NodeScopes → List Marked
outer_marked_in s = reverse (map shown_marked s.nest.outer.items)
