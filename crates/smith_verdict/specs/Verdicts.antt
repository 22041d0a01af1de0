-- What bytes that may spell a component are.
use Rattle.std.specs.Prelude.{◌≡◌, ℕ, List, Some, None}
use Rattle.smith_tree.specs.Tree.{Tree}
use Rattle.smith_tree.specs.WellFormed.{WellFormed}
use Rattle.smith_read.specs.Items.{StopsAt}
use Rattle.smith_read.specs.Reads.{AreRead, AreUnread}
use Rattle.smith_read.specs.Places.{offset_in}
use Rattle.smith_verdict.specs.declared.verdict.Verdict.{Verdict}
use Rattle.smith_verdict.specs.declared.verdict.Verdict.TheVariants as verdict

-- An item of the component begins at that offset. What precedes it is well formed, and what ends with it is not.
abbrev pub IsBrokenAt : Tree → ℕ → Type 0
IsBrokenAt t offset = (item : ℕ) × (offset_in item t ≡ Some offset) × StopsAt WellFormed item t

-- They spell a component that is well formed; or one that is not, with the offset of the item that breaks it; or none whose scopes are at
-- most that deep, with an offset in them or at their end.
abbrev pub IsVerdict : List ℕ → Verdict → Type 0
IsVerdict bytes verdict.WellFormed = AreRead bytes WellFormed
IsVerdict bytes (verdict.IllFormed rule None) = ⊥
IsVerdict bytes (verdict.IllFormed rule (Some offset)) = AreRead bytes (λ t. (¬ WellFormed t) × IsBrokenAt t offset)
IsVerdict bytes (verdict.Unread reason offset) = AreUnread bytes offset
