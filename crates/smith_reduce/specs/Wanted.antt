-- Which components are wanted when reducing.
use Rattle.std.specs.Prelude.{◌≡◌, ℕ, ◌+◌, ◌≤◌, ◌<◌, true, List, Option, None, Some}
use Rattle.smith_format.specs.Consistency.{IsConsistent}
use Rattle.smith_tree.specs.Tree.{Tree}
use Rattle.smith_tree.specs.WellFormed.{WellFormed}
use Rattle.smith_edit.specs.Counts.{KeepsMaxima}
use Rattle.smith_edit.specs.Items.{tree_items}
use Rattle.smith_read.specs.PartNodes.{shown_tree}
use Rattle.smith_read.specs.declared.error.ReadError.{ReadError}
use Rattle.smith_read.specs.declared.error.ReadError.TheVariants as read_error
use Rattle.smith_reduce.specs.Smaller.{HasScript, Leads, LeadsTo}
use Rattle.smith_reduce.specs.declared.error.ReduceError.{ReduceError}
use Rattle.smith_reduce.specs.declared.error.ReduceError.TheVariants as error
use Rattle.smith_reduce.specs.declared.steps.Found.{Found}
use Rattle.smith_reduce.specs.declared.steps.Found.TheVariants as found
use Rattle.smith_reduce.specs.declared.steps.Wanted.{Wanted}
use Rattle.smith_reduce.specs.declared.steps.Wanted.TheVariants as wanted
use Rattle.smith_reduce.specs.declared.steps.Whole.{Whole}

abbrev pub IsWanted : Wanted → Tree → Type 0
IsWanted (wanted.Generated config) = HasScript config.now
IsWanted wanted.WellFormed = WellFormed

-- the limits fit together, if there are any
abbrev pub AreConsistent : Wanted → Type 0
AreConsistent (wanted.Generated config) = IsConsistent config.now
AreConsistent wanted.WellFormed = Unit {0}

-- the bytes to which a step leads, or none if it leads to nothing that is wanted
abbrev pub IsLead : Wanted → Tree → ℕ → Option (List ℕ) → Type 0
IsLead want t n (Some bytes) = LeadsTo (IsWanted want) t n bytes
IsLead want t n None = ¬ Leads (IsWanted want) t n

-- no step from the first number on and before the second leads to one that is wanted
abbrev pub ArePassed : Wanted → Tree → ℕ → ℕ → Type 0
ArePassed want t from to = (n : ℕ) → from ≤ n → n < to → ¬ Leads (IsWanted want) t n

-- what is found at a step: bytes to which it leads, or that so many steps from it on lead to nothing that is wanted
abbrev pub IsFound : Wanted → Tree → ℕ → Found → Type 0
IsFound want t n (found.Wanted bytes) = LeadsTo (IsWanted want) t n bytes.items
IsFound want t n (found.Nothing count) = (0 < count) × ArePassed want t n (n + count)

-- Limits keep what is wanted from having too many entries.
abbrev pub AreCountsAllowed : Wanted → Tree → Type 0
AreCountsAllowed (wanted.Generated config) t = KeepsMaxima config.now t
AreCountsAllowed wanted.WellFormed t = Unit {0}

-- that many items are the component's, and it has too many entries if that is said
pub record IsWhole (whole : Whole) : Type 0 where
  pub items : whole.items ≡ tree_items (shown_tree whole.component.now)
  pub over : whole.is_over ≡ true → ¬ AreCountsAllowed whole.wanted (shown_tree whole.component.now)

-- what a refusal to read is when reducing
abbrev pub unread : ReadError → ReduceError
unread read_error.OutOfMemory = error.OutOfMemory
unread (read_error.Malformed offset reason) = error.Unread reason offset
