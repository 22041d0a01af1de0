-- The scopes of the program, outermost first, and what it keeps beside the types of each.
use Rattle.std.specs.Prelude.{◌≡◌, ℕ, ◌≤◌, false, List, [], ◌∷◌, ◌++◌, drop, map, length, reverse, get_or, Option}
use Rattle.std.specs.declared.alloc.Global.{Global}
use Rattle.std.specs.declared.boxed.Box.{Box}
use Rattle.smith_format.specs.Consistency.{max_u32}
use Rattle.smith_syntax.specs.Entries.{Signature}
use Rattle.smith_syntax.specs.HasSignature.{has_signature}
use Rattle.smith_syntax.specs.Scope.{ScopeOf, Scope, empty_scope}
use Rattle.smith_syntax.specs.Marked.{Marked, MarkedOf, empty_marked, first_marked, scope_in, with_marked, with_sized}
use Rattle.smith_syntax.specs.Marks.{no_mark}
use Rattle.smith_syntax.specs.declared.marks.Mark.{Mark}
use Rattle.smith_syntax.specs.Places.{own_of, outer_of, places}
use Rattle.smith_syntax.specs.Shown.{shown_type, shown_core}
use Rattle.smith_syntax.specs.declared.core_types.CoreType.{CoreType}
use Rattle.smith_scopes.specs.Rows.{AreNoted}
use Rattle.smith_scopes.specs.declared.scopes.equals.Equals.{Equals}
use Rattle.smith_syntax.specs.declared.deftype.DefType.{DefType}
use Rattle.smith_scope.specs.Positions.{plain_marked, plain_scope}
pub use Rattle.smith_scope.specs.Positions.{kind_places}
pub use Rattle.smith_scopes.specs.Rows.{values_of}

-- a scope of the program's own types
abbrev pub Types : Type 0
Types = ScopeOf DefType CoreType

abbrev pub shown_types : Types → Scope
shown_types d = plain_scope shown_type shown_core d

-- the same with what is kept of them
abbrev pub Contents : Type 0
Contents = MarkedOf DefType CoreType

-- these as plain trees
abbrev pub shown_marked : Contents → Marked
shown_marked d = plain_marked shown_type shown_core d

-- and without what is kept
abbrev pub shown_scope : Contents → Scope
shown_scope d = shown_types (scope_in d)

-- the scopes as plain trees, innermost first
abbrev pub inward : List Contents → List Scope
inward scopes = reverse (map shown_scope scopes)

-- the same with what is kept
abbrev pub inward_marked : List Contents → List Marked
inward_marked scopes = reverse (map shown_marked scopes)

-- the innermost scope with what is kept, and those around it

abbrev pub own_marked : List Contents → Marked
own_marked scopes = first_marked (inward_marked scopes)

abbrev pub outer_marked : List Contents → List Marked
outer_marked scopes = drop 1 (inward_marked scopes)

-- the innermost scope as plain trees, and those around it
abbrev pub own_scope : List Contents → Scope
own_scope scopes = own_of (inward scopes)

abbrev pub outer_scopes : List Contents → List Scope
outer_scopes scopes = outer_of (inward scopes)

-- the scope of that count (0 is the last)
abbrev pub scope_at : List Contents → ℕ → Contents
scope_at scopes count = get_or (reverse scopes) count (empty_marked false)

abbrev pub last_of : List Contents → Contents
last_of scopes = scope_at scopes 0

-- The types and core types of each scope, outermost first, without what is kept of them.
abbrev pub lists_in : List Contents → List Types
lists_in scopes = map scope_in scopes

-- the types of the scope of that count (0 is the last)
abbrev pub lists_at : List Contents → ℕ → Types
lists_at scopes count = get_or (reverse (lists_in scopes)) count empty_scope

-- new is old with another last scope
pub record Changes {A : Type 0} (f : A → A) (old new : List A) : Type 0 where
  pub outer : List A
  pub own : A
  pub before : old ≡ outer ++ own ∷ []
  pub after : new ≡ outer ++ f own ∷ []

-- new is old with the type of that mark at the end of the last scope
abbrev pub AddsMarked : List Contents → DefType → Mark → List Contents → Type 0
AddsMarked old ty m new = Changes (λ d. with_marked d ty m) old new

abbrev pub AddsType : List Contents → DefType → List Contents → Type 0
AddsType old ty new = AddsMarked old ty no_mark new

-- new is old with the core type of that size at the end of the last scope
abbrev pub AddsSized : List Contents → CoreType → ℕ → List Contents → Type 0
AddsSized old ty n new = Changes (λ d. with_sized d ty n) old new

abbrev pub AddsCoreType : List Contents → CoreType → List Contents → Type 0
AddsCoreType old ty new = AddsSized old ty 0 new

-- the indexes of the function types of that signature, ascending
abbrev pub equal_places : Signature → Types → List ℕ
equal_places f d = places (has_signature f) 0 d.types

-- What is known of a scope: the rows of the first types are theirs, and an index has 32 bits.
pub record IsMade (s : Contents) (equals : Option (Box Equals Global)) : Type 0 where
  pub equals_are : AreNoted equals s.types
  pub few : length s.types ≤ max_u32
  pub few_core : length s.core_types ≤ max_u32
