-- What bytes that may spell a component are to a validator.
use Rattle.std.specs.Prelude.{◌≡◌, ◌+◌, ℕ, List, None, Some}
use Rattle.smith_tree.specs.Grammar.{Spells}
use Rattle.smith_tree.specs.Tree.{Tree}
use Rattle.smith_tree.specs.WellFormed.{WellFormed}
use Rattle.smith_tree.specs.Validates.{Validates}
use Rattle.smith_validate.specs.Outcome.{IsUnmet}
use Rattle.smith_validate.specs.declared.error.Demand.{Demand}
use Rattle.smith_read.specs.Items.{upto}
use Rattle.smith_read.specs.Places.{offset_in}
use Rattle.smith_verdict.specs.Verdicts.{IsVerdict}
use Rattle.smith_verdict.specs.declared.validity.Validity.{Validity}
use Rattle.smith_verdict.specs.declared.validity.Validity.TheVariants as validity
use Rattle.smith_verdict.specs.declared.verdict.Verdict.TheVariants.{WellFormed as found_well_formed}

-- An item of the component begins at that offset. What precedes it meets all demands, and what ends with it does not meet that one.
abbrev pub IsUnmetAt : Demand → Tree → ℕ → Type 0
IsUnmetAt demand t offset = (item : ℕ) × (offset_in item t ≡ Some offset) × Validates (upto item t) × IsUnmet demand (upto (item + 1) t)

-- They spell a component that is well formed and validates; or one that is well formed and does not meet that demand, with the offset of the item
-- from which on it does not; or else they are what they are found to be, no well formed component.
abbrev pub IsValidity : List ℕ → Validity → Type 0
IsValidity bytes validity.Valid = (t : Tree) × Spells t bytes × WellFormed t × Validates t
IsValidity bytes (validity.Invalid demand None) = ⊥
IsValidity bytes (validity.Invalid demand (Some offset)) = (t : Tree) × Spells t bytes × WellFormed t × IsUnmet demand t × IsUnmetAt demand t offset
IsValidity bytes (validity.Other verdict) = IsVerdict bytes verdict × (¬ (verdict ≡ found_well_formed))
