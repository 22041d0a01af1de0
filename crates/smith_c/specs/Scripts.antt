-- The script of the component that bytes are, and why there is none.
use Rattle.std.specs.Prelude.{◌≡◌, ◌≢◌, ◌≤◌, ℕ, List, Some, None, length}
use Rattle.smith_format.specs.Consistency.{IsConsistent}
use Rattle.smith_format.specs.declared.config.Config.{Config}
use Rattle.smith_input.specs.declared.error.Error.TheVariants.{InconsistentLimits, MinimumNotMet, ModuleRefused, TooLong, OutOfMemory, PartsDisagree}
use Rattle.smith_tree.specs.Grammar.{Spells}
use Rattle.smith_tree.specs.Tree.{Tree}
use Rattle.smith_tree.specs.WellFormed.{WellFormed}
use Rattle.smith_read.specs.Reads.{AreRead, AreUnread}
use Rattle.smith_script.specs.IsScript.{CannotBeGenerated, IsScript}
use Rattle.smith_script.specs.declared.error.ScriptError.{ScriptError}
use Rattle.smith_script.specs.declared.error.ScriptError.TheVariants as refusal
use Rattle.smith_c.specs.Limits.{limits_of}
use Rattle.smith_c.specs.Makes.{no_offset}
use Rattle.smith_c.specs.declared.limits.Limits.{Limits}
use Rattle.smith_c.specs.declared.status.Status.{Status}
use Rattle.smith_c.specs.declared.status.Status.TheVariants.{Answered, Refused, NoRoom, BadFlag, IllFormed, Unread, NoScript, NoSmaller, Invalid}
use Rattle.smith_c.specs.declared.status.Status.TheVariants.{Bound, Outside, NoChange, NoText}

-- This is the script, within the limits, of a component that the bytes spell.
pub record Scripts (limits : Limits) (bytes script : List ℕ) : Type 0 where
  pub config : Config
  pub told : limits ≡ limits_of config
  pub component : Tree
  pub spelled : Spells component bytes
  pub is : IsScript config component script

-- No input leads, within the limits, to a component that the bytes spell. So it has no script.
pub record HasNoScript (limits : Limits) (bytes : List ℕ) : Type 0 where
  pub config : Config
  pub told : limits ≡ limits_of config
  pub none : IsConsistent config → (component : Tree) → Spells component bytes → CannotBeGenerated config component

-- No script is returned: the bytes are not read, or are a component that is not well formed, or one that is and has none; or there is no
-- memory for it, or the limits are of no configuration that fits together. The offset is written with it.
abbrev pub Withholds : Limits → List ℕ → Status → ℕ → Type 0
Withholds limits bytes Answered offset = ⊥
Withholds limits bytes (Refused InconsistentLimits) offset = (config : Config) × (limits ≡ limits_of config) × (¬ IsConsistent config)
Withholds limits bytes (Refused MinimumNotMet) offset = ⊥
Withholds limits bytes (Refused ModuleRefused) offset = ⊥
Withholds limits bytes (Refused TooLong) offset = ⊥
Withholds limits bytes (Refused OutOfMemory) offset = (config : Config) × (limits ≡ limits_of config)
Withholds limits bytes (Refused PartsDisagree) offset = ⊥
Withholds limits bytes NoRoom offset = ⊥
Withholds limits bytes BadFlag offset = (config : Config) → limits ≢ limits_of config
Withholds limits bytes IllFormed offset = HasNoScript limits bytes × AreRead bytes (λ t. ¬ WellFormed t)
Withholds limits bytes Unread offset = HasNoScript limits bytes × AreUnread bytes offset
Withholds limits bytes NoScript offset = HasNoScript limits bytes × AreRead bytes WellFormed × (offset ≢ no_offset → offset ≤ length bytes)
Withholds limits bytes NoSmaller offset = ⊥
Withholds limits bytes Invalid offset = ⊥
Withholds limits bytes Bound offset = ⊥
Withholds limits bytes Outside offset = ⊥
Withholds limits bytes NoChange offset = ⊥
Withholds limits bytes NoText offset = ⊥

-- the status that a refusal of `script` becomes
abbrev pub status_of : ScriptError → Status
status_of refusal.OutOfMemory = Refused OutOfMemory
status_of refusal.InconsistentLimits = Refused InconsistentLimits
status_of (refusal.Unread reason offset) = Unread
status_of (refusal.IllFormed fault) = IllFormed
status_of (refusal.NoScript limit offset) = NoScript

-- the offset that it has
abbrev pub offset_of : ScriptError → ℕ
offset_of refusal.OutOfMemory = no_offset
offset_of refusal.InconsistentLimits = no_offset
offset_of (refusal.Unread reason offset) = offset
offset_of (refusal.IllFormed fault) = no_offset
offset_of (refusal.NoScript limit (Some offset)) = offset
offset_of (refusal.NoScript limit None) = no_offset
