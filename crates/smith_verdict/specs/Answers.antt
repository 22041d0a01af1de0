-- What bytes are to every validator of the standard, whatever its bounds and whatever more it has.
use Rattle.std.specs.Prelude.{◌≡◌, ◌≤◌, ℕ, false, List, length, None, Some, nat_eq}
use Rattle.std.specs.List.{AllByRecursion, Contains, starts_with}
use Rattle.smith_core.specs.Preamble.{core_preamble}
use Rattle.smith_tree.specs.Depths.{scope_depth}
use Rattle.smith_tree.specs.Grammar.{Spells}
use Rattle.smith_tree.specs.Possible.{Possible}
use Rattle.smith_tree.specs.Tree.{Tree, modules}
use Rattle.smith_tree.specs.Validates.{ValidTree, Validates}
use Rattle.smith_tree.specs.WellFormed.{WellFormed}
use Rattle.smith_read.specs.Framed.{Framed}
use Rattle.smith_read.specs.Places.{offset_in}
use Rattle.smith_read.specs.Reads.{most_depth}
use Rattle.smith_validate.specs.Outcome.{asking}
use Rattle.smith_validate.specs.declared.error.Demand.{Demand}
use Rattle.smith_validate.specs.declared.error.Demand.TheVariants.{Named}
use Rattle.smith_verdict.specs.Contained.{HasNoReferences, KeepsMore}
use Rattle.smith_verdict.specs.Modules.{BoundedModule, BrokenModule, SoundModule}
use Rattle.smith_verdict.specs.declared.answers.Answer.{Answer}
use Rattle.smith_verdict.specs.declared.answers.Answer.TheVariants as answer
use Rattle.smith_verdict.specs.declared.answers.Broken.{Broken}
use Rattle.smith_verdict.specs.declared.answers.Broken.TheVariants as broken

-- Every validator has to accept it, if it has all features and no lower bounds than wasmparser: it is well formed, names what it imports and exports, keeps
-- all bounds, has no concrete references, and its core modules are sound.
pub record IsSound (t : Tree) : Type 0 where
  pub formed : WellFormed t
  pub valid : Validates t
  pub plain : HasNoReferences t
  pub bounded : KeepsMore t
  pub modules : AllByRecursion SoundModule (modules t)

-- What is imported and exported is named, whatever bounds are kept (Explainer.md, import and export definitions, type checking).
abbrev pub IsNamed : Tree → Type 0
IsNamed = ValidTree (asking Named)

-- It keeps all bounds of wasmparser's own: it meets each demand that is no name, and its names, core types and core modules are not too long.
pub record IsBounded (t : Tree) : Type 0 where
  pub demands : (demand : Demand) → ¬ (demand ≡ Named) → ValidTree (asking demand) t
  pub contents : KeepsMore t
  pub modules : AllByRecursion (λ text. ¬ BoundedModule text) (modules t)

-- The standard refuses it, for that reason. Frames are not of a component.
abbrev pub Breaks : Broken → Tree → Type 0
Breaks (broken.Rule r) t = ¬ Possible t
Breaks broken.Named t = WellFormed t × (¬ IsNamed t)
Breaks broken.Module t = (text : List ℕ) × Contains (modules t) text × BrokenModule text
Breaks _ t = ⊥

-- An item of the component begins at that offset.
abbrev pub IsItemAt : Tree → ℕ → Type 0
IsItemAt t offset = (item : ℕ) × (offset_in item t ≡ Some offset)

-- They spell a component that is broken, and an item begins at that offset.
abbrev pub AreBroken : List ℕ → Broken → ℕ → Type 0
AreBroken bytes reason offset = (t : Tree) × Spells t bytes × Breaks reason t × IsItemAt t offset

-- They have not the frames of a component, and are no core module by themselves. The offset is in them or at their end.
pub record AreUnframed (bytes : List ℕ) (offset : ℕ) : Type 0 where
  pub unframed : ¬ Framed bytes
  pub no_module : starts_with nat_eq bytes core_preamble ≡ false
  pub within : offset ≤ length bytes

-- They spell a well formed component that does not keep all bounds, and an item begins at that offset.
abbrev pub AreBeyond : List ℕ → ℕ → Type 0
AreBeyond bytes offset = (t : Tree) × Spells t bytes × WellFormed t × (¬ IsBounded t) × IsItemAt t offset

-- They spell no sound component, of those whose scopes are at most that deep.
abbrev pub AreOutside : List ℕ → Type 0
AreOutside bytes = (t : Tree) → Spells t bytes → scope_depth t ≤ most_depth → ¬ IsSound t

-- What each answer says.
abbrev pub IsAnswer : List ℕ → Answer → Type 0
IsAnswer bytes answer.Valid = (t : Tree) × Spells t bytes × IsSound t
IsAnswer bytes (answer.Invalid reason None) = ⊥
IsAnswer bytes (answer.Invalid (broken.Rule r) (Some offset)) = AreBroken bytes (broken.Rule r) offset
IsAnswer bytes (answer.Invalid broken.Named (Some offset)) = AreBroken bytes broken.Named offset
IsAnswer bytes (answer.Invalid broken.Module (Some offset)) = AreBroken bytes broken.Module offset
IsAnswer bytes (answer.Invalid _ (Some offset)) = AreUnframed bytes offset
IsAnswer bytes (answer.Bound demand None) = ⊥
IsAnswer bytes (answer.Bound demand (Some offset)) = AreBeyond bytes offset
IsAnswer bytes (answer.Outside why None) = ⊥
IsAnswer bytes (answer.Outside why (Some offset)) = AreOutside bytes
