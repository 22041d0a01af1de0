-- Components that are open, and what a turn may choose among.
use Rattle.std.specs.Prelude.{ℕ, ◌+◌, Bool, true, ◌&&◌, List, [], ◌∷◌, length, nat_le, nat_lt}
use Rattle.smith_input.specs.Offers.{offers_of}
use Rattle.smith_format.specs.declared.config.Config.{Config}
use Rattle.smith_syntax.specs.Scope.{Scope}
use Rattle.smith_tree.specs.Tree.{Tree, ends, component, add, module_count, component_count, parts_of}
use Rattle.smith_tree.specs.WellFormed.{scope_of}
use Rattle.smith_tree.specs.declared.choices.Item.{Item}
use Rattle.smith_tree.specs.declared.choices.Item.TheVariants.{Finish, Custom, CoreTypes, Types, Imports, Canonical, Module, Component, Exports}

-- The open components: those around the inner one, outermost first, and the inner one, each as its parts so far.
pub record Open : Type 0 where
  pub outer : List Tree
  pub inner : Tree

-- one open component, empty
abbrev pub root : Open
root = record { outer = []; inner = ends }

-- The tree as if all that is open were finished now.
abbrev pub tree_so_far : List Tree → Tree → Tree
tree_so_far [] t = t
tree_so_far (u ∷ outer) t = add u (component (tree_so_far outer t))

-- the scopes of the open components, outermost first, in front of these
abbrev pub scopes_from : List Tree → List Scope → List Scope
scopes_from [] outer = outer
scopes_from (u ∷ us) outer = scopes_from us (scope_of u ∷ outer)

abbrev pub scopes_in : List Tree → List Scope
scopes_in us = scopes_from us []

-- the same components around another inner one
abbrev pub with_inner : Open → Tree → Open
with_inner stack t = record { outer = stack.outer; inner = t }

-- may a component with these parts be finished, if input is left?
abbrev pub is_finish_offered : Config → Tree → Bool
is_finish_offered config t = nat_le config.finish_after (length (parts_of t))

-- may a core module be embedded?
abbrev pub is_module_offered : Config → Open → Bool
is_module_offered config stack = nat_lt (module_count (tree_so_far stack.outer stack.inner)) config.max_modules

-- may a component be opened?
abbrev pub is_component_offered : Config → Open → Bool
is_component_offered config stack =
    nat_lt (length stack.outer + 1) config.max_nesting_depth && nat_lt (component_count (tree_so_far stack.outer stack.inner)) config.max_components

-- may functions be exported?
abbrev pub is_export_offered : Config → Bool
is_export_offered config = nat_lt 0 config.max_exports

-- the items if input is left, in order, and whether each is offered
abbrev pub offers : Bool → Bool → Bool → Bool → List (Bool × Item)
offers with_finish with_module with_component with_exports =
    (with_finish, Finish)
    ∷ (true, Custom)
    ∷ (true, CoreTypes)
    ∷ (true, Types)
    ∷ (true, Imports)
    ∷ (true, Canonical)
    ∷ (with_module, Module)
    ∷ (with_component, Component)
    ∷ (with_exports, Exports)
    ∷ []

-- what a turn may do if input is left
abbrev pub item_offers : Config → Open → List (Bool × Item)
item_offers config stack =
    offers (is_finish_offered config stack.inner) (is_module_offered config stack) (is_component_offered config stack) (is_export_offered config)

-- what a turn chooses among if input is left
abbrev pub more_items : Bool → Bool → Bool → Bool → List Item
more_items with_finish with_module with_component with_exports = offers_of (offers with_finish with_module with_component with_exports)

abbrev pub items_with_input : Config → Open → List Item
items_with_input config stack = offers_of (item_offers config stack)

-- what a turn chooses among
abbrev pub items : Config → Open → List ℕ → List Item
items config stack [] = Finish ∷ []
items config stack (x ∷ xs) = items_with_input config stack
