-- What the builder keeps of a component beside its sections.
use Rattle.std.specs.Prelude.{◌≡◌, ℕ, ◌+◌, ◌<◌, true, [], ◌∷◌, ◌++◌, length, if◌then◌else◌}
use Rattle.std.specs.List.{AllByRecursion}
use Rattle.smith_syntax.specs.Entries.{Signature}
use Rattle.smith_syntax.specs.Flat.{is_scalar}
use Rattle.smith_syntax.specs.Scope.{Scope}
use Rattle.smith_input.specs.Names.{Holds}
use Rattle.smith_types.specs.MakingTypes.{HoldsExterns}
use Rattle.smith_tree.specs.Offers.{is_scalar_type, scalar_functions}
use Rattle.smith_component.specs.SectionValues.{externs_of}
use Rattle.smith_component.specs.Shown.{shown_sections}
use Rattle.smith_tree.specs.Spaces.{Spaces, spaces_of, types_of}
use Rattle.smith_tree.specs.Functions.{core_functions_of, functions_of}
use Rattle.smith_tree.specs.Tree.{Tree, exports_of, function_count}
use Rattle.smith_tree.specs.WellFormed.{HasSignature, export_names}
use Rattle.smith_component.specs.declared.builder.open.OpenComponent.{OpenComponent}
use Rattle.smith_component.specs.declared.builder.tables.Tables.{Tables}

-- a component function whose type flattens
abbrev pub IsLowerable : Tree → ℕ → Type 0
IsLowerable t f = (signature : Signature) × HasSignature (spaces_of t) f signature × (is_scalar signature ≡ true)

-- The types of all component functions are there, and all core functions lower one whose type flattens.
pub record IsGrounded (t : Tree) : Type 0 where
  pub known : AllByRecursion (λ ty. ty < length (types_of t)) (functions_of t)
  pub lowered : AllByRecursion (IsLowerable t) (core_functions_of t)

-- The tables are the component's, except for the names of its imports.
pub record Tabled (tables : Tables) (t : Tree) : Type 0 where
  pub functions : tables.functions.items ≡ functions_of t
  pub core_functions : tables.core_functions.items ≡ core_functions_of t
  pub scalars : tables.scalars.items ≡ scalar_functions (spaces_of t)
  pub counts : tables.counted ≡ function_count t
  pub exports : Holds tables.exports (export_names (exports_of t))
  pub grounded : IsGrounded t

-- An open component's tables are its sections' tables, and its sets of names are the names of its imports and of their
-- URLs.
pub record IsTabled (c : OpenComponent) : Type 0 where
  pub tabled : Tabled c.tables (shown_sections c.sections.items)
  pub externs : HoldsExterns c.tables.imports (externs_of c.sections.items)

-- how many functions are in index spaces
abbrev pub functions_at : Spaces → ℕ
functions_at s = length s.functions + length s.core_functions

-- The types of the component functions are there.
abbrev pub IsKnown : Scope → Tables → Type 0
IsKnown own tables = AllByRecursion (λ ty. ty < length own.types) tables.functions.items

-- new is old with a component function of the type with that index, and counts that many more
pub record AddsFunction (own : Scope) (more : ℕ) (old : Tables) (ty : ℕ) (new : Tables) : Type 0 where
  pub functions : new.functions.items ≡ old.functions.items ++ ty ∷ []
  pub scalars : new.scalars.items ≡ old.scalars.items ++ (if is_scalar_type own.types ty then length old.functions.items ∷ [] else [])
  pub core_functions : new.core_functions.items ≡ old.core_functions.items
  pub counted : new.counted ≡ old.counted + more
  pub imports : new.imports ≡ old.imports
  pub exports : new.exports ≡ old.exports

-- new is old with a core function that lowers the component function with that index
pub record AddsCoreFunction (old : Tables) (f : ℕ) (new : Tables) : Type 0 where
  pub functions : new.functions.items ≡ old.functions.items
  pub scalars : new.scalars.items ≡ old.scalars.items
  pub core_functions : new.core_functions.items ≡ old.core_functions.items ++ f ∷ []
  pub counted : new.counted ≡ old.counted + 1
  pub imports : new.imports ≡ old.imports
  pub exports : new.exports ≡ old.exports
