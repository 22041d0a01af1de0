-- What is kept of types and core types for their sizes.
use Rattle.std.specs.Prelude.{ℕ, List, ◌∷◌, map, reverse, Option, None, Some, slice_get}
use Rattle.smith_syntax.specs.Entries.{core_func, core_module}
use Rattle.smith_syntax.specs.Scope.{ScopeOf}
use Rattle.smith_tree.specs.Facts.{CoreFacts, FactScope}
use Rattle.smith_syntax.specs.Sizes.{capped}
use Rattle.smith_tree.specs.Sizes.{function_size}
use Rattle.smith_validate.specs.declared.facts.CoreFacts.{CoreFacts as KeptCore}
use Rattle.smith_validate.specs.declared.facts.CoreFacts.TheVariants as core
use Rattle.smith_validate.specs.declared.facts.Facts.{Facts}
use Rattle.smith_validate.specs.declared.known.Known.{Known}
use Rattle.smith_validate.specs.declared.known.Scope.{Scope}

abbrev pub kept_core : CoreFacts → KeptCore
kept_core f = elim f.entry [ core_func g ↦ core.Func (capped (function_size g)) | core_module ds ↦ core.Module (capped f.size) ]

abbrev pub Kept : Type 0
Kept = ScopeOf ℕ KeptCore

-- what is kept of a scope, and what should be
abbrev pub kept_in : Scope → Kept
kept_in s = record { types = map (λ f. f.size) s.types.items; core_types = s.core_types.items }

abbrev pub kept_of : FactScope → Kept
kept_of s = record { types = map (λ f. capped f.size) s.types; core_types = map kept_core s.core_types }

-- the innermost scope, and the ones around it, innermost first
abbrev pub own_in : Known → Kept
own_in k = kept_in k.scopes.own

abbrev pub outer_in : Known → List Kept
outer_in k = reverse (map kept_in k.scopes.outer.items)

-- the types in each of the scopes, and around the innermost, innermost first

abbrev pub outer_types : Known → List (List Facts)
outer_types k = reverse (map (λ s. s.types.items) k.scopes.outer.items)

abbrev pub types_in : Known → List (List Facts)
types_in k = k.scopes.own.types.items ∷ outer_types k

-- the type with that index in the scope of that count
abbrev pub type_in : List (List Facts) → ℕ → ℕ → Option Facts
type_in scopes count i = elim (slice_get scopes count) [ None ↦ None | Some ts ↦ slice_get ts i ]

-- what there is in the scope of that count, innermost first
abbrev pub named_at : {A : Type 0} → (Kept → List A) → List Kept → ℕ → ℕ → Option A
named_at of scopes count i = elim (slice_get scopes count) [ None ↦ None | Some s ↦ slice_get (of s) i ]
