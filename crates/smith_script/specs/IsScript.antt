-- What the script of a component is.
use Rattle.std.specs.Prelude.{◌≡◌, ℕ, List, [], Option, None, Some}
use Rattle.std.specs.declared.alloc.Global.{Global}
use Rattle.std.specs.declared.vec.Vec.{Vec}
use Rattle.smith_input.specs.Script.{AreBytes}
use Rattle.smith_format.specs.Consistency.{IsConsistent}
use Rattle.smith_format.specs.declared.config.Config.{Config}
use Rattle.smith_tree.specs.Grammar.{Spells}
use Rattle.smith_component.specs.Runs.{IsFollowed, RunsTo}
use Rattle.smith_tree.specs.Script.{script}
use Rattle.smith_tree.specs.Tree.{Tree}
use Rattle.smith_script.specs.declared.scripting.Draft.{Draft}
use Rattle.smith_script.specs.declared.scripting.Draft.TheVariants as draft

-- The limits fit together, and the run over the input leads to the tree, and leaves nothing.
pub record IsGiven (config : Config) (t : Tree) (input : List ℕ) : Type 0 where
  pub consistent : IsConsistent config
  pub runs : RunsTo config input t []

-- The bytes are the script of the tree, which has a spelling; the run over them leads to the tree, and leaves nothing.
pub record IsScript (config : Config) (t : Tree) (b : List ℕ) : Type 0 where
  pub is : b ≡ script config t
  pub bytes : AreBytes b
  pub consistent : IsConsistent config
  pub spelled : (c : List ℕ) × Spells t c
  pub runs : RunsTo config b t []

-- No input leads to the tree, which has bytes, except for one whose end finishes a component of it early.
abbrev pub CannotBeGenerated : Config → Tree → Type 0
CannotBeGenerated config t = (input left c : List ℕ) → Spells t c → IsFollowed config left → ¬ RunsTo config input t left

-- These bytes are the script of the tree, or it has none.
abbrev pub IsScriptIfAny : Config → Tree → Option (Vec ℕ Global) → Type 0
IsScriptIfAny config t (Some b) = IsScript config t b.items
IsScriptIfAny config t None = (b : List ℕ) → ¬ IsScript config t b

-- What a draft of a script is.

-- It is the whole script; or it is a part, and the script is not bytes, as if a choice takes more of them than it has.
abbrev pub IsDraft : List ℕ → Draft → Type 0
IsDraft script (draft.Whole b) = b.items ≡ script
IsDraft script (draft.Part b) = ¬ AreBytes script
