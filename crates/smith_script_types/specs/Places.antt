-- Where a type is.
use Rattle.std.specs.Prelude.{List}
use Rattle.smith_syntax.specs.Marked.{Marked}
use Rattle.smith_syntax.specs.Scope.{Scope}
use Rattle.smith_scopes.specs.NodeScopes.{outer_marked_in, own_in, own_marked_in}
use Rattle.smith_script_types.specs.declared.place.Place.{Place}
use Rattle.std.specs.Prelude.{map}
use Rattle.smith_read.specs.Nodes.{shown_module_node}
use Rattle.smith_tree.specs.CoreTypeOffers.{Declared as PlainDeclared}
use Rattle.smith_script_types.specs.Tables.{functions_in}
use Rattle.smith_script_types.specs.declared.declared.Declared.{Declared}

abbrev pub own_at : Place → Marked
own_at p = own_marked_in p.scopes.now

abbrev pub outer_at : Place → List Marked
outer_at p = outer_marked_in p.scopes.now

-- the scope by itself
abbrev pub plain_at : Place → Scope
plain_at p = own_in p.scopes.now

-- Module types so far.

-- the own types and the declarations; a script does not go by the fuel
abbrev pub so_far : Declared → PlainDeclared
so_far s = record { own = functions_in s.tables.own.items; decls = map shown_module_node s.decls.now; fuel = 0 }
