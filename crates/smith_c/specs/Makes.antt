-- What a call makes of the input, and why it stops.
use Rattle.std.specs.Prelude.{◌≡◌, ◌≢◌, ℕ, List, length}
use Rattle.smith_format.specs.Consistency.{IsConsistent}
use Rattle.smith_format.specs.declared.config.Config.{Config}
use Rattle.smith_tree.specs.Generates.{Generates}
use Rattle.smith_component.specs.Refusals.{IsGenerateRefusal}
use Rattle.smith_component.specs.Runs.{IsMade}
use Rattle.smith_tree.specs.Tree.{Tree}
use Rattle.smith_c.specs.Limits.{limits_of}
use Rattle.smith_c.specs.declared.limits.Limits.{Limits}
use Rattle.smith_c.specs.declared.status.Status.{Status}
use Rattle.smith_c.specs.declared.status.Status.TheVariants.{Answered, Refused, NoRoom, BadFlag, IllFormed, Unread, NoScript, NoSmaller, Invalid}
use Rattle.smith_c.specs.declared.status.Status.TheVariants.{Bound, Outside, NoChange, NoText}
use Rattle.std.specs.Prelude.{ℤ, pos}
use Rattle.smith_input.specs.declared.error.Error.TheVariants.{InconsistentLimits, MinimumNotMet, ModuleRefused, TooLong, OutOfMemory, PartsDisagree}

-- These are the bytes of a component that is made of the input within the limits, and that many bytes of the input are
-- left.
pub record Makes (limits : Limits) (input bytes : List ℕ) (left : ℕ) : Type 0 where
  pub config : Config
  pub told : limits ≡ limits_of config
  pub consistent : IsConsistent config
  pub component : Tree
  pub generated : Generates config component bytes
  pub rest : List ℕ
  pub made : IsMade config input component rest
  pub left_is : left ≡ length rest

-- No component is made: as the limits and the input refuse it, or since the limits are no configuration's.
abbrev pub Stops : Limits → List ℕ → Status → Type 0
Stops limits input Answered = ⊥
Stops limits input (Refused error) =
    (config : Config) × (limits ≡ limits_of config) × (left : List ℕ) × IsGenerateRefusal config input error left
Stops limits input NoRoom = ⊥
Stops limits input BadFlag = (config : Config) → limits ≢ limits_of config
Stops limits input IllFormed = ⊥
Stops limits input Unread = ⊥
Stops limits input NoScript = ⊥
Stops limits input NoSmaller = ⊥
Stops limits input Invalid = ⊥
Stops limits input Bound = ⊥
Stops limits input Outside = ⊥
Stops limits input NoChange = ⊥
Stops limits input NoText = ⊥

-- What a call returns in C.

-- the number in C that says how a call ended
abbrev pub code_of : Status → ℤ
code_of Answered = pos 0
code_of (Refused InconsistentLimits) = pos 1
code_of (Refused MinimumNotMet) = pos 2
code_of (Refused ModuleRefused) = pos 3
code_of (Refused TooLong) = pos 4
code_of (Refused OutOfMemory) = pos 5
code_of (Refused PartsDisagree) = pos 6
code_of NoRoom = pos 7
code_of BadFlag = pos 8
code_of IllFormed = pos 10
code_of Unread = pos 11
code_of NoScript = pos 12
code_of NoSmaller = pos 13
code_of Invalid = pos 14
code_of Bound = pos 15
code_of Outside = pos 16
code_of NoChange = pos 17
code_of NoText = pos 18

-- what is written if no offset is known: 2^64 - 1
abbrev pub no_offset : ℕ
no_offset = 18446744073709551615
