-- What is found of core modules in a row.
use Rattle.std.specs.Prelude.{ℕ, ◌<◌, List, []}
use Rattle.std.specs.List.{AllByRecursion, Contains}
use Rattle.smith_tree.specs.Tree.{modules_in}
use Rattle.smith_read.specs.Walk.{Step, one}
use Rattle.smith_verdict.specs.Modules.{BoundedModule, BrokenModule, SoundModule}
use Rattle.smith_verdict.specs.declared.module_walk.Modules.{Modules}
use Rattle.smith_verdict.specs.declared.module_walk.Modules.TheVariants.{Sound, Broken, Bounded, Other}

-- one of them has the property, and one of so many items says so
abbrev pub IsOne : (List ℕ → Type 0) → ℕ → List (List ℕ) → ℕ → Type 0
IsOne P items texts item = (item < items) × (text : List ℕ) × Contains texts text × P text

-- All are sound, or one is as it was found to be.
abbrev pub AreModules : ℕ → List (List ℕ) → Modules → Type 0
AreModules items texts Sound = AllByRecursion SoundModule texts
AreModules items texts (Broken item) = IsOne BrokenModule items texts item
AreModules items texts (Bounded item) = IsOne BoundedModule items texts item
AreModules items texts (Other item) = IsOne (λ text. ¬ SoundModule text) items texts item

-- the core module that a step is, if it is one
abbrev pub texts_in : Step → List (List ℕ)
texts_in (one p) = modules_in p
texts_in _ = []
