-- What is known of types of instances whose types are named, and of the ones that are being judged.
use Rattle.std.specs.Prelude.{◌≡◌, ℕ, ◌<◌, ◌||◌, Bool, true, false, List, [], ◌∷◌, ◌++◌, length, drop, None, Some, slice_get}
use Rattle.smith_tree.specs.Facts.{Id}
use Rattle.smith_tree.specs.Validates.{RefersTo, names_of}
use Rattle.smith_validate.specs.Instances.{Surface, Follow, Piece, Rest, externs_in, externs_of, refers_of, uses_in}
use Rattle.smith_validate.specs.Marks.{Within}
use Rattle.smith_validate.specs.Numbers.{is_in}
use Rattle.smith_validate.specs.declared.instances.Exposed.{Exposed}
use Rattle.smith_validate.specs.declared.instances.InstanceType.{InstanceType}
use Rattle.smith_validate.specs.declared.instances.Use.{Use}
use Rattle.smith_validate.specs.declared.instances.Use.TheVariants.{Instance, Equal}

abbrev pub number_of : Use → ℕ
number_of (Instance n) = n
number_of (Equal n) = n

-- what has to hold of a use within another
abbrev pub use_in : Use → Use → Use
use_in (Instance n) u = u
use_in (Equal n) u = Equal (number_of u)

abbrev pub uses_of : List InstanceType → ℕ → List Use
uses_of all n = elim (slice_get all n) [ None ↦ [] | Some t ↦ t.uses.items ]

abbrev pub refers_own : List InstanceType → ℕ → Bool
refers_own all n = elim (slice_get all n) [ None ↦ false | Some t ↦ t.refers_to_own ]

abbrev pub outside_at : List InstanceType → ℕ → Bool
outside_at all n = elim (slice_get all n) [ None ↦ false | Some t ↦ t.refers_outside ]

abbrev pub first_at : List InstanceType → ℕ → Bool
first_at all n = elim (slice_get all n) [ None ↦ false | Some t ↦ t.names_first ]

abbrev pub is_settled : Exposed → ℕ → Bool
is_settled s n = is_in s.named n || is_in s.settled n

-- What is settled refers to what is named.
abbrev pub IsSettled : List Surface → Exposed → List Id → Type 0
IsSettled table s named = (n : ℕ) → is_settled s n ≡ true → (n < length table) × Within named (refers_of (externs_of table n))

module _ (table : List Surface) where
  -- An instance may be exported; a type that is equal to one of instances may be.
  abbrev pub IsMet : Use → List Id → Type 0
  IsMet (Instance n) named = RefersTo named (externs_of table n)
  IsMet (Equal n) named = Within named (refers_of (externs_of table n))

  -- what is named then
  abbrev pub named_after : Use → List Id → List Id
  named_after (Instance n) named = named ++ names_of (externs_of table n)
  named_after (Equal n) named = named

  -- The same for exports of that type, one after another.

  abbrev pub Fit : Use → List Id → List Piece → Type 0
  Fit (Instance n) named ps = Follow table named ps
  Fit (Equal n) named ps = Rest table named ps

  abbrev pub AreMet : Use → List Id → List Piece → Type 0
  AreMet (Instance n) named ps = RefersTo named (externs_in table ps)
  AreMet (Equal n) named ps = Within named (refers_of (externs_in table ps))

  abbrev pub named_past : Use → List Id → List Piece → List Id
  named_past (Instance n) named ps = named ++ names_of (externs_in table ps)
  named_past (Equal n) named ps = named

  module _ (all : List InstanceType) (Goal : List Id → Type 0) where
    -- Uses are open, the innermost first, each with how many of its own are done. What is left of them leads to the goal.
    abbrev pub IsPending : List (Use × ℕ) → List Id → Type 0
    IsPending [] named = Goal named
    IsPending (u ∷ us) named = (ps : List Piece)
        × (number_of u.0 < length table)
        × (uses_in ps ≡ drop u.1 (uses_of all (number_of u.0)))
        × Fit u.0 named ps
        × (AreMet u.0 named ps → Within (named_past u.0 named ps) (refers_of (externs_of table (number_of u.0))) × IsPending us (named_past u.0 named ps))

-- A use is met, and what is settled then is so by what is named then.
pub record Meets (table : List Surface) (u : Use) (Settled : List Id → Type 0) (named : List Id) : Type 0 where
  pub met : IsMet table u named
  pub settled : Settled (named_after table u named)

-- The goal of a use, if that was named before it.
pub record IsGoal (table : List Surface) (u : Use) (before named : List Id) : Type 0 where
  pub met : IsMet table u before
  pub named_is : named ≡ named_after table u before

-- Uses are open, and lead to that goal.
pub record IsOnTheWay (table : List Surface) (all : List InstanceType) (u : Use) (before : List Id) (s : Exposed) (open_uses : List (Use × ℕ)) : Type 0 where
  pub named : List Id
  pub settled : IsSettled table s named
  pub pending : IsPending table all (IsGoal table u before) open_uses named
