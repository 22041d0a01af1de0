-- Changed and miswritten components, and why there are none.
use Rattle.std.specs.Prelude.{◌≡◌, ℕ, List, Option, Some, None, Result, Ok, Err}
use Rattle.smith_input.specs.declared.error.Error.TheVariants.{InconsistentLimits, MinimumNotMet, ModuleRefused, TooLong, OutOfMemory, PartsDisagree}
use Rattle.smith_tree.specs.Grammar.{Spells}
use Rattle.smith_tree.specs.Tree.{Tree}
use Rattle.smith_change.specs.Changes as change
use Rattle.smith_change.specs.Miswritten.{IsMisstep}
use Rattle.smith_change.specs.declared.miswritten.Miswriting.{Miswriting}
use Rattle.smith_change.specs.declared.error.ChangeError.{ChangeError}
use Rattle.smith_change.specs.declared.error.ChangeError.TheVariants as refusal
use Rattle.smith_c.specs.Reduces.{IsUnread}
use Rattle.smith_c.specs.declared.status.Status.{Status}
use Rattle.smith_c.specs.declared.status.Status.TheVariants.{Answered, Refused, NoRoom, BadFlag, IllFormed, Unread, NoScript, NoSmaller, Invalid}
use Rattle.smith_c.specs.declared.status.Status.TheVariants.{Bound, Outside, NoChange, NoText}

-- This is the component to which the change of that number leads; none if it leads to nothing.
abbrev pub Changes : List ℕ → ℕ → Option (List ℕ) → Type 0
Changes bytes number changed = (t : Tree) × Spells t bytes × change.IsLead t number changed

-- This is the first change from that number on that leads to a component, and that component; none if no change from there on leads to one.
abbrev pub ChangesNext : List ℕ → ℕ → Option (ℕ × List ℕ) → Type 0
ChangesNext bytes from step = (t : Tree) × Spells t bytes × change.IsNext t from step

-- This is the first candidate from that number on that is written wrongly, and those bytes; none if there is none.
abbrev pub WrongNext : List ℕ → ℕ → Option (ℕ × List ℕ) → Type 0
WrongNext bytes from (Some step) = (what : Miswriting) × IsMisstep bytes from (Some (step.0, what, step.1))
WrongNext bytes from None = IsMisstep bytes from None

-- that many changes
abbrev pub Counts : List ℕ → ℕ → Type 0
Counts bytes count = (t : Tree) × Spells t bytes × (count ≡ change.changes t)

-- the status that a refusal to change becomes
abbrev pub status_of : ChangeError → Status
status_of refusal.OutOfMemory = Refused OutOfMemory
status_of (refusal.Unread reason offset) = Unread

-- what is found, or the status if there is none
abbrev pub found : {V : Type 0} → Result (Option V) ChangeError → Result V Status
found (Ok (Some x)) = Ok x
found (Ok None) = Err NoChange
found (Err e) = Err (status_of e)

-- No changed component is returned: there is none, or the bytes are not read, or no memory is left.
abbrev pub LacksChange : Type 0 → List ℕ → Status → Type 0
LacksChange none bytes Answered = ⊥
LacksChange none bytes (Refused InconsistentLimits) = ⊥
LacksChange none bytes (Refused MinimumNotMet) = ⊥
LacksChange none bytes (Refused ModuleRefused) = ⊥
LacksChange none bytes (Refused TooLong) = ⊥
LacksChange none bytes (Refused OutOfMemory) = Unit {0}
LacksChange none bytes (Refused PartsDisagree) = ⊥
LacksChange none bytes NoRoom = ⊥
LacksChange none bytes BadFlag = ⊥
LacksChange none bytes IllFormed = ⊥
LacksChange none bytes Unread = IsUnread bytes
LacksChange none bytes NoScript = ⊥
LacksChange none bytes NoSmaller = ⊥
LacksChange none bytes Invalid = ⊥
LacksChange none bytes Bound = ⊥
LacksChange none bytes Outside = ⊥
LacksChange none bytes NoChange = none
LacksChange none bytes NoText = ⊥
