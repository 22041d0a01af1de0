-- Smaller and joined components, and why there are none.
use Rattle.std.specs.Prelude.{◌≡◌, ◌≢◌, ◌⊎◌, ℕ, List, Option, Some, None, Result, Ok, Err}
use Rattle.smith_format.specs.Consistency.{IsConsistent}
use Rattle.smith_format.specs.declared.config.Config.{Config}
use Rattle.smith_input.specs.declared.error.Error.TheVariants.{InconsistentLimits, MinimumNotMet, ModuleRefused, TooLong, OutOfMemory, PartsDisagree}
use Rattle.smith_tree.specs.Grammar.{Spells, component_text}
use Rattle.smith_tree.specs.Tree.{Tree}
use Rattle.smith_read.specs.Reads.{AreUnread}
use Rattle.smith_reduce.specs.Bytes.{AreJoined, IsWithout}
use Rattle.smith_reduce.specs.Smaller.{HasScript, IsKth, IsNext}
use Rattle.smith_reduce.specs.declared.error.JoinError.{JoinError}
use Rattle.smith_reduce.specs.declared.error.JoinError.TheVariants as join_error
use Rattle.smith_reduce.specs.declared.error.ReduceError.{ReduceError}
use Rattle.smith_reduce.specs.declared.error.ReduceError.TheVariants as refusal
use Rattle.smith_c.specs.Limits.{limits_of}
use Rattle.smith_c.specs.declared.limits.Limits.{Limits}
use Rattle.smith_c.specs.declared.status.Status.{Status}
use Rattle.smith_c.specs.declared.status.Status.TheVariants.{Answered, Refused, NoRoom, BadFlag, IllFormed, Unread, NoScript, NoSmaller, Invalid}
use Rattle.smith_c.specs.declared.status.Status.TheVariants.{Bound, Outside, NoChange, NoText}

-- This is the k-th of the components that have the property and are smaller by a step than the component of the bytes; none
-- if there is no k-th.
abbrev pub IsSmaller : (Tree → Type 0) → List ℕ → ℕ → Option (List ℕ) → Type 0
IsSmaller P bytes k smaller = (t : Tree) × Spells t bytes × IsKth P t k smaller

-- This is the k-th of the ones that can be generated within the limits.
abbrev pub Reduces : Limits → List ℕ → ℕ → Option (List ℕ) → Type 0
Reduces limits bytes k smaller = (config : Config) × (limits ≡ limits_of config) × IsConsistent config × IsSmaller (HasScript config) bytes k smaller

-- This is the first step from that number on to a component that has the property and is smaller than the component of the bytes, and that
-- component; none if no step from there on leads to one.
abbrev pub IsNextSmaller : (Tree → Type 0) → List ℕ → ℕ → Option (ℕ × List ℕ) → Type 0
IsNextSmaller P bytes from step = (t : Tree) × Spells t bytes × IsNext P t from step

-- This is the first to one that can be generated within the limits.
abbrev pub ReducesNext : Limits → List ℕ → ℕ → Option (ℕ × List ℕ) → Type 0
ReducesNext limits bytes from step =
    (config : Config) × (limits ≡ limits_of config) × IsConsistent config × IsNextSmaller (HasScript config) bytes from step

-- This is the component of the bytes without its k-th item; none if there is no k-th.
abbrev pub Removes : List ℕ → ℕ → Option (List ℕ) → Type 0
Removes bytes k less = (t : Tree) × Spells t bytes × IsWithout k t less

-- the status that a refusal to reduce becomes
abbrev pub status_of : ReduceError → Status
status_of refusal.OutOfMemory = Refused OutOfMemory
status_of refusal.InconsistentLimits = Refused InconsistentLimits
status_of (refusal.Unread reason offset) = Unread

-- what is found, or the status if there is none
abbrev pub found : {V : Type 0} → Result (Option V) ReduceError → Result V Status
found (Ok (Some x)) = Ok x
found (Ok None) = Err NoSmaller
found (Err e) = Err (status_of e)

-- the status that a refusal to join becomes
abbrev pub status_of_join : JoinError → Status
status_of_join join_error.OutOfMemory = Refused OutOfMemory
status_of_join join_error.TooLong = Refused TooLong
status_of_join (join_error.FirstUnread reason offset) = Unread
status_of_join (join_error.SecondUnread reason offset) = Unread

-- the bytes are not read
abbrev pub IsUnread : List ℕ → Type 0
IsUnread bytes = (offset : ℕ) × AreUnread bytes offset

-- No component within the limits is returned: there is none, or the bytes are not read, or no memory is left, or the limits are of no
-- configuration that fits together.
abbrev pub LacksWithin : Type 0 → Limits → List ℕ → Status → Type 0
LacksWithin none limits bytes Answered = ⊥
LacksWithin none limits bytes (Refused InconsistentLimits) = (config : Config) × (limits ≡ limits_of config) × (¬ IsConsistent config)
LacksWithin none limits bytes (Refused MinimumNotMet) = ⊥
LacksWithin none limits bytes (Refused ModuleRefused) = ⊥
LacksWithin none limits bytes (Refused TooLong) = ⊥
LacksWithin none limits bytes (Refused OutOfMemory) = (config : Config) × (limits ≡ limits_of config)
LacksWithin none limits bytes (Refused PartsDisagree) = ⊥
LacksWithin none limits bytes NoRoom = ⊥
LacksWithin none limits bytes BadFlag = (config : Config) → limits ≢ limits_of config
LacksWithin none limits bytes IllFormed = ⊥
LacksWithin none limits bytes Unread = IsUnread bytes
LacksWithin none limits bytes NoScript = ⊥
LacksWithin none limits bytes NoSmaller = none
LacksWithin none limits bytes Invalid = ⊥
LacksWithin none limits bytes Bound = ⊥
LacksWithin none limits bytes Outside = ⊥
LacksWithin none limits bytes NoChange = ⊥
LacksWithin none limits bytes NoText = ⊥

-- No smaller component is returned: there is no k-th.
abbrev pub Unreduced : Limits → List ℕ → ℕ → Status → Type 0
Unreduced limits bytes k status = LacksWithin (Reduces limits bytes k None) limits bytes status

-- No component is returned: there is none, or the bytes are not read, or no memory is left.
abbrev pub Lacks : Type 0 → List ℕ → Status → Type 0
Lacks none bytes Answered = ⊥
Lacks none bytes (Refused InconsistentLimits) = ⊥
Lacks none bytes (Refused MinimumNotMet) = ⊥
Lacks none bytes (Refused ModuleRefused) = ⊥
Lacks none bytes (Refused TooLong) = ⊥
Lacks none bytes (Refused OutOfMemory) = Unit {0}
Lacks none bytes (Refused PartsDisagree) = ⊥
Lacks none bytes NoRoom = ⊥
Lacks none bytes BadFlag = ⊥
Lacks none bytes IllFormed = ⊥
Lacks none bytes Unread = IsUnread bytes
Lacks none bytes NoScript = ⊥
Lacks none bytes NoSmaller = none
Lacks none bytes Invalid = ⊥
Lacks none bytes Bound = ⊥
Lacks none bytes Outside = ⊥
Lacks none bytes NoChange = ⊥
Lacks none bytes NoText = ⊥

-- No joined component is returned: it has no encoding, or the bytes of one are not read, or no memory is left.
abbrev pub AreUnjoined : List ℕ → List ℕ → Status → Type 0
AreUnjoined first second Answered = ⊥
AreUnjoined first second (Refused InconsistentLimits) = ⊥
AreUnjoined first second (Refused MinimumNotMet) = ⊥
AreUnjoined first second (Refused ModuleRefused) = ⊥
AreUnjoined first second (Refused TooLong) = AreJoined first second (λ t. component_text t ≡ None)
AreUnjoined first second (Refused OutOfMemory) = Unit {0}
AreUnjoined first second (Refused PartsDisagree) = ⊥
AreUnjoined first second NoRoom = ⊥
AreUnjoined first second BadFlag = ⊥
AreUnjoined first second IllFormed = ⊥
AreUnjoined first second Unread = IsUnread first ⊎ IsUnread second
AreUnjoined first second NoScript = ⊥
AreUnjoined first second NoSmaller = ⊥
AreUnjoined first second Invalid = ⊥
AreUnjoined first second Bound = ⊥
AreUnjoined first second Outside = ⊥
AreUnjoined first second NoChange = ⊥
AreUnjoined first second NoText = ⊥
