-- What a component has a minimum of, and how what is missing is filled when it is finished.
use Rattle.std.specs.Prelude.{◌≡◌, ℕ, ◌-◌, ◌<◌, ◌≤◌, List, length, ◌⊎◌}
use Rattle.smith_format.specs.declared.config.Config.{Config}
use Rattle.smith_tree.specs.Tree.{Tree, imports_of, function_count}
use Rattle.smith_tree.specs.Open.{Open, with_inner}
use Rattle.smith_component.specs.declared.item.Counted.{Counted}
use Rattle.smith_component.specs.AddedSections.{Adds}
use Rattle.smith_tree.specs.Spaces.{types_of}
use Rattle.smith_component.specs.declared.item.Counted.TheVariants.{Types, Imports, Functions}

-- how many types, imports or functions a component has
abbrev pub count_of : Counted → Tree → ℕ
count_of Types t = length (types_of t)
count_of Imports t = length (imports_of t)
count_of Functions t = function_count t

-- the least that it must have of them
abbrev pub minimum_of : Counted → Config → ℕ
minimum_of Types config = config.min_types
minimum_of Imports config = config.min_imports
minimum_of Functions config = config.min_funcs

-- What is missing of a minimum is filled, and if nothing is missing nothing is done.
abbrev pub Fills : Counted → Config → Open → List ℕ → Tree → List ℕ → Type 0
Fills what config stack b t rest =
    ((minimum_of what config ≤ count_of what stack.inner) × (t ≡ stack.inner) × (rest ≡ b))
    ⊎ ((count_of what stack.inner < minimum_of what config) × Adds what config (minimum_of what config - count_of what stack.inner) stack b t rest)

-- Types are filled first, then imports, and then functions, each counted anew, and no import or function is missing then.
pub record FillsAll (config : Config) (stack : Open) (b : List ℕ) (full : Tree) (rest : List ℕ) : Type 0 where
  pub typed : Tree
  pub mid : List ℕ
  pub imported : Tree
  pub low : List ℕ
  pub types : Fills Types config stack b typed mid
  pub imports : Fills Imports config (with_inner stack typed) mid imported low
  pub enough_imports : config.min_imports ≤ length (imports_of imported)
  pub functions : Fills Functions config (with_inner stack imported) low full rest
  pub enough_functions : config.min_funcs ≤ function_count full

-- Imports are missing when they have been filled; or none is, and functions are missing when those have been. That leaves these bytes.
pub data Lacks (config : Config) (stack : Open) (b rest : List ℕ) : Type 0 where
  of_imports : {typed imported : Tree} {mid : List ℕ} → Fills Types config stack b typed mid
      → Fills Imports config (with_inner stack typed) mid imported rest
      → length (imports_of imported) < config.min_imports → Lacks config stack b rest
  of_functions : {typed imported full : Tree} {mid low : List ℕ} → Fills Types config stack b typed mid
      → Fills Imports config (with_inner stack typed) mid imported low
      → config.min_imports ≤ length (imports_of imported) → Fills Functions config (with_inner stack imported) low full rest
      → function_count full < config.min_funcs → Lacks config stack b rest
