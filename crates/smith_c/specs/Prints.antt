-- The text of the component that bytes are, and why there is none.
use Rattle.std.specs.Prelude.{◌≡◌, ℕ, List, Option, None}
use Rattle.smith_input.specs.declared.error.Error.TheVariants.{InconsistentLimits, MinimumNotMet, ModuleRefused, TooLong, OutOfMemory, PartsDisagree}
use Rattle.smith_tree.specs.Grammar.{Spells}
use Rattle.smith_tree.specs.Tree.{Tree}
use Rattle.smith_print.specs.Components.{text_of}
use Rattle.smith_c.specs.Reduces.{IsUnread}
use Rattle.smith_c.specs.declared.status.Status.{Status}
use Rattle.smith_c.specs.declared.status.Status.TheVariants.{Answered, Refused, NoRoom, BadFlag, IllFormed, Unread, NoScript, NoSmaller, Invalid}
use Rattle.smith_c.specs.declared.status.Status.TheVariants.{Bound, Outside, NoChange, NoText}

-- This is the text of the component that the bytes spell; none if it has none: a core module in it has more than function types and memories.
abbrev pub IsTextOf : List ℕ → Option (List ℕ) → Type 0
IsTextOf bytes text = (t : Tree) × Spells t bytes × (text_of t ≡ text)

-- No text is returned: the component has none, or the bytes are not read, or no memory is left.
abbrev pub LacksText : List ℕ → Status → Type 0
LacksText bytes Answered = ⊥
LacksText bytes (Refused InconsistentLimits) = ⊥
LacksText bytes (Refused MinimumNotMet) = ⊥
LacksText bytes (Refused ModuleRefused) = ⊥
LacksText bytes (Refused TooLong) = ⊥
LacksText bytes (Refused OutOfMemory) = Unit {0}
LacksText bytes (Refused PartsDisagree) = ⊥
LacksText bytes NoRoom = ⊥
LacksText bytes BadFlag = ⊥
LacksText bytes IllFormed = ⊥
LacksText bytes Unread = IsUnread bytes
LacksText bytes NoScript = ⊥
LacksText bytes NoSmaller = ⊥
LacksText bytes Invalid = ⊥
LacksText bytes Bound = ⊥
LacksText bytes Outside = ⊥
LacksText bytes NoChange = ⊥
LacksText bytes NoText = IsTextOf bytes None
