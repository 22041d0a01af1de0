-- What is known at a place in a component that is edited.
use Rattle.std.specs.Prelude.{ℕ, List, [], ◌∷◌, Option, None, Some, reverse, slice_get}
use Rattle.smith_edit.specs.Removal.{past}
use Rattle.smith_edit.specs.Renumbering.{Renumbering, from, new_index, with_entry}
use Rattle.smith_edit.specs.declared.renumbering.Fate.{Fate}
use Rattle.smith_edit.specs.declared.walk.Removal.{Removal}
use Rattle.smith_edit.specs.declared.walk.Removal.TheVariants.{Nothing}
use Rattle.smith_edit.specs.declared.walk.Scope.{Scope}
use Rattle.smith_edit.specs.declared.walk.Walk.{Walk as Inside}

-- what is removed from here on, what became of the entries of this scope, and of the scopes around it, innermost first
pub record Walk : Type 0 where
  pub removal : Removal
  pub own : Scope
  pub outer : List Scope

-- what a walk of the program shows
abbrev pub shown_walk : Inside → Walk
shown_walk w = record { removal = w.removal; own = w.scopes.own; outer = reverse w.scopes.outer.items }

abbrev pub new_scope : Scope
new_scope = record { types = from 0; core_types = from 0; functions = from 0; core_functions = from 0 }

-- where nothing is removed, and nothing is known
abbrev pub still : Walk
still = record { removal = Nothing; own = new_scope; outer = [] }

-- that many items further on
abbrev pub skipped : ℕ → Walk → Walk
skipped n w = record w { removal = past n w.removal }

-- in an empty scope inside this one
abbrev pub entered : Walk → Walk
entered w = record w { own = new_scope; outer = w.own ∷ w.outer }

-- in the scope around this one
abbrev pub exited : Walk → Walk
exited w = elim w.outer [ [] ↦ w | s ∷ ss ↦ record w { own = s; outer = ss } ]

-- with one more entry of a space

abbrev pub with_type : Scope → Fate → Scope
with_type s f = record s { types = with_entry s.types f }

abbrev pub with_core_type : Scope → Fate → Scope
with_core_type s f = record s { core_types = with_entry s.core_types f }

abbrev pub with_function : Scope → Fate → Scope
with_function s f = record s { functions = with_entry s.functions f }

abbrev pub with_core_function : Scope → Fate → Scope
with_core_function s f = record s { core_functions = with_entry s.core_functions f }

-- the new index of what an outer alias names (Explainer.md, outer aliases); an alias of no scope remains
abbrev pub aliased : (Scope → Renumbering) → List Scope → ℕ → ℕ → Option ℕ
aliased space scopes count i = elim (slice_get scopes count) [ None ↦ Some i | Some s ↦ new_index (space s) i ]

abbrev pub aliased_type : Walk → ℕ → ℕ → Option ℕ
aliased_type w count i = aliased (λ s. s.types) (w.own ∷ w.outer) count i

abbrev pub aliased_core_type : Walk → ℕ → ℕ → Option ℕ
aliased_core_type w count i = aliased (λ s. s.core_types) (w.own ∷ w.outer) count i
