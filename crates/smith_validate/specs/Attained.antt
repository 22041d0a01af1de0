-- What is kept of types that have to be named is kept of one of them.
use Rattle.std.specs.Prelude.{◌≡◌, ℕ, ◌+◌, true, false, List, length, Option, None, Some}
use Rattle.smith_input.specs.NewNames.{is_among}
use Rattle.smith_tree.specs.Facts.{Id}
use Rattle.smith_validate.specs.Places.{IsBefore, IsOpen}
use Rattle.smith_validate.specs.declared.facts.Needs.{Needs}
use Rattle.smith_validate.specs.declared.facts.Outermost.{Outermost}
use Rattle.smith_validate.specs.declared.facts.Outermost.TheVariants.{Unnamed, Scope, Nothing}

-- One of them is named by none of these, or was added to the scope with that many around it.
abbrev pub AttainsOuter : Id → List Id → List Id → Outermost → Type 0
AttainsOuter place named ids Unnamed = (id : Id) × (is_among ids id ≡ true) × IsBefore 0 place id × (is_among named id ≡ false)
AttainsOuter place named ids (Scope level) = (id : Id) × (is_among ids id ≡ true) × IsOpen place id × (length id ≡ level + 1)
AttainsOuter place named ids Nothing = Unit {0}

-- One of them was added to a scope with at least that many around it, or within a type there.
abbrev pub AttainsInner : Id → List Id → Option ℕ → Type 0
AttainsInner place ids None = Unit {0}
AttainsInner place ids (Some level) = (id : Id) × (is_among ids id ≡ true) × IsBefore level place id

pub record Attains (place : Id) (named : List Id) (needs : Needs) (ids : List Id) : Type 0 where
  pub outer : AttainsOuter place named ids needs.outermost
  pub inner : AttainsInner place ids needs.innermost
