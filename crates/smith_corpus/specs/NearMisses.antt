-- Bytes that are close to a component, and what is said of them.
use Rattle.std.specs.Prelude.{◌≡◌, ℕ, ◌%◌, List, Option, Some, None, length}
use Rattle.smith_tree.specs.Grammar.{Spells}
use Rattle.smith_tree.specs.Tree.{Tree}
use Rattle.smith_change.specs.Changes.{alternatives, Leads, LeadsTo}
use Rattle.smith_change.specs.Miswritten.{AreCutsFramed, AreMiswritten}
use Rattle.smith_change.specs.declared.miswritten.Misstep.{Misstep}
use Rattle.smith_verdict.specs.Answers.{IsAnswer}
use Rattle.smith_corpus.specs.declared.breaking.Difference.{Difference}
use Rattle.smith_corpus.specs.declared.breaking.Difference.TheVariants.{Change, Miswriting}
use Rattle.smith_corpus.specs.declared.breaking.NearMiss.{NearMiss}

-- It is a change of the component, the one of that number.
abbrev pub IsChangeTo : Tree → Difference → ℕ → List ℕ → Type 0
IsChangeTo t (Change alternative) number bytes = LeadsTo t number bytes × (alternative.number ≡ number % alternatives)
IsChangeTo t (Miswriting what) number bytes = ⊥

-- the component with a change, which is named, and its answer
pub record IsChangeOf (t : Tree) (m : NearMiss) : Type 0 where
  pub differs : IsChangeTo t m.difference m.number m.bytes.items
  pub judged : IsAnswer m.bytes.items m.answer

-- the change of that number; none if it leads to nothing
abbrev pub IsChangeAt : Tree → ℕ → Option NearMiss → Type 0
IsChangeAt t number (Some m) = IsChangeOf t m × (m.number ≡ number)
IsChangeAt t number None = ¬ Leads t number

-- one of the changes; none if no change leads to anything
abbrev pub IsSomeChange : Tree → Option NearMiss → Type 0
IsSomeChange t (Some m) = IsChangeOf t m
IsSomeChange t None = (number : ℕ) → ¬ Leads t number

-- the same of the component that these bytes are
abbrev pub IsChanged : List ℕ → Option NearMiss → Type 0
IsChanged given found = (t : Tree) × Spells t given × IsSomeChange t found

-- bytes written wrongly; none if the given ones have the frames of a component wherever they are cut off
abbrev pub IsSomeMisstep : List ℕ → Option Misstep → Type 0
IsSomeMisstep given (Some m) = AreMiswritten m.what given m.bytes.items
IsSomeMisstep given None = AreCutsFramed given 0 (length given)

-- They are the given ones, with what is named written wrongly.
abbrev pub WrongBy : Difference → List ℕ → List ℕ → Type 0
WrongBy (Change alternative) given new = ⊥
WrongBy (Miswriting what) given new = AreMiswritten what given new

-- the given bytes written wrongly, and their answer
pub record IsMiswritten (given : List ℕ) (m : NearMiss) : Type 0 where
  pub differs : WrongBy m.difference given m.bytes.items
  pub judged : IsAnswer m.bytes.items m.answer

-- the same of near misses
abbrev pub IsSomeMiswritten : List ℕ → Option NearMiss → Type 0
IsSomeMiswritten given (Some m) = IsMiswritten given m
IsSomeMiswritten given None = AreCutsFramed given 0 (length given)
