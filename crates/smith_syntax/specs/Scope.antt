-- Scopes: the types in scope at each point (Explainer.md, index spaces).
use Rattle.std.specs.Prelude.{ℕ, Bool, true, false, List, [], ◌∷◌, ◌++◌, Option, Some, None, slice_get}
use Rattle.std.specs.Option.{option_to_list}
use Rattle.smith_syntax.specs.Entries.{Entry, defined, function, component_type, instance_type, CoreEntry, core_func, core_module}
use Rattle.smith_syntax.specs.Entries.{DeclOf, core_type_decl, type_decl, type_alias, core_type_alias, import_decl, export_decl, plain}
use Rattle.smith_syntax.specs.declared.deftype.ComponentTypeRef.{ComponentTypeRef}
use Rattle.smith_syntax.specs.declared.deftype.ComponentTypeRef.TheVariants as to

-- what is before a place in one scope: the types and the core types
pub record ScopeOf (T C : Type 0) : Type 0 where
  pub types : List T
  pub core_types : List C

-- a scope of plain trees
abbrev pub Scope : Type 0
Scope = ScopeOf Entry CoreEntry

module _ {T C : Type 0} where
  abbrev pub empty_scope : ScopeOf T C
  empty_scope = record { types = []; core_types = [] }

  -- the scope with more types
  abbrev pub with_types : ScopeOf T C → List T → ScopeOf T C
  with_types s ts = record { types = s.types ++ ts; core_types = s.core_types }

  -- the scope with more core types
  abbrev pub with_core_types : ScopeOf T C → List C → ScopeOf T C
  with_core_types s ts = record { types = s.types; core_types = s.core_types ++ ts }

  -- the scope with one more type
  abbrev pub with_type : ScopeOf T C → T → ScopeOf T C
  with_type s t = record { types = s.types ++ t ∷ []; core_types = s.core_types }

  -- the scope with one more core type
  abbrev pub with_core_type : ScopeOf T C → C → ScopeOf T C
  with_core_type s t = record { types = s.types; core_types = s.core_types ++ t ∷ [] }

-- Is it a type of values, as opposed to one of functions, components or instances?
abbrev pub is_defined : Entry → Bool
is_defined (defined t) = true
is_defined _ = false

-- Is it a type of functions?
abbrev pub is_func : Entry → Bool
is_func (function s) = true
is_func _ = false

-- Is it a type of components?
abbrev pub is_component : Entry → Bool
is_component (component_type ds) = true
is_component _ = false

-- Is it a type of instances?
abbrev pub is_instance : Entry → Bool
is_instance (instance_type ds) = true
is_instance _ = false

-- Is it the type of a core module?
abbrev pub is_core_module : CoreEntry → Bool
is_core_module (core_func f) = false
is_core_module (core_module ds) = true

-- what is in the scope of that count; the scopes are given innermost first, and 0 is the first
abbrev pub in_scope : {A : Type 0} → (Scope → List A) → List Scope → ℕ → ℕ → Option A
in_scope of scopes count i = elim (slice_get scopes count) [ None ↦ None | Some s ↦ slice_get (of s) i ]

-- The type or core type that an outer alias names (Explainer.md, outer aliases).
abbrev pub type_named : List Scope → ℕ → ℕ → Option Entry
type_named scopes count i = in_scope (λ s. s.types) scopes count i

abbrev pub core_type_named : List Scope → ℕ → ℕ → Option CoreEntry
core_type_named scopes count i = in_scope (λ s. s.core_types) scopes count i

-- The type that an export adds to the scope: only what is equal to a type adds one.
abbrev pub exported_type : Scope → ComponentTypeRef → Option Entry
exported_type own (to.TypeEq i) = slice_get own.types i
exported_type own _ = None

-- The scope after a declaration in it (Explainer.md, index spaces). A declared type or core type adds itself, an alias what it names,
-- and an export of a type that type. Nothing else adds anything.
abbrev pub after_decl : {N K : Type 0} → List Scope → Scope → DeclOf N K → Scope
after_decl outer own (core_type_decl t k) = with_core_type own t
after_decl outer own (type_decl e) = with_type own (plain e)
after_decl outer own (type_alias count i k) = with_types own (option_to_list (type_named (own ∷ outer) count i))
after_decl outer own (core_type_alias count i k) = with_core_types own (option_to_list (core_type_named (own ∷ outer) count i))
after_decl outer own (import_decl name n r) = own
after_decl outer own (export_decl name n r) = with_types own (option_to_list (exported_type own r))
