-- Why no script of the component that bytes are is returned.
use Rattle.std.specs.Prelude.{◌≤◌, ℕ, suc, List, [], ◌∷◌, length, nat_eq, if◌then◌else◌, IfSome}
use Rattle.smith_tree.specs.Depths.{scope_depth}
use Rattle.smith_tree.specs.Grammar.{Spells}
use Rattle.smith_tree.specs.Tree.{Tree}
use Rattle.smith_tree.specs.WellFormed.{WellFormed}
use Rattle.smith_read.specs.Items.{StopsAt}
use Rattle.smith_read.specs.Reads.{AreRead, AreUnread, most_depth}
use Rattle.smith_script.specs.declared.error.ScriptError.{ScriptError}
use Rattle.smith_script.specs.declared.error.ScriptError.TheVariants as error
use Rattle.smith_script.specs.declared.scripting.Trial.{Trial}
use Rattle.smith_script.specs.declared.scripting.Trial.TheVariants as trial

-- They are read as that tree, which is well formed.
pub record AreReadAs (bytes : List ℕ) (t : Tree) : Type 0 where
  pub spelled : Spells t bytes
  pub shallow : scope_depth t ≤ most_depth
  pub formed : WellFormed t

-- They are not read; they are a component that is not well formed, and stops being so at that item; or they are one that is, and
-- what is produced differs in them or at their end. Whether the limits fit together, and memory, are not of the bytes.
abbrev pub IsScriptRefusal : List ℕ → ScriptError → Type 0
IsScriptRefusal bytes error.OutOfMemory = Unit {0}
IsScriptRefusal bytes error.InconsistentLimits = Unit {0}
IsScriptRefusal bytes (error.Unread reason offset) = AreUnread bytes offset
IsScriptRefusal bytes (error.IllFormed fault) =
    AreRead bytes (λ t. (¬ WellFormed t) × StopsAt WellFormed fault.item t)
IsScriptRefusal bytes (error.NoScript limit offset) = AreRead bytes WellFormed × IfSome offset (λ n. n ≤ length bytes)

-- how many bytes both begin with
abbrev pub common_length : List ℕ → List ℕ → ℕ
common_length [] ys = 0
common_length (x ∷ xs) [] = 0
common_length (x ∷ xs) (y ∷ ys) = if nat_eq x y then suc (common_length xs ys) else 0

-- What differs from these bytes differs in them or at their end.
abbrev pub DiffersWithin : List ℕ → Trial → Type 0
DiffersWithin bytes trial.These = Unit {0}
DiffersWithin bytes (trial.Others common) = common ≤ length bytes
DiffersWithin bytes trial.Nothing = Unit {0}
