-- When what is missing of the minima can be filled, whatever the input.
use Rattle.std.specs.Prelude.{◌≡◌, ℕ, ◌+◌, ◌-◌, ◌*◌, ◌<◌, ◌≤◌, ◌⊎◌, true, List, length, Result, MatchResult}
use Rattle.smith_input.specs.declared.error.Error.{Error}
use Rattle.smith_input.specs.declared.error.Error.TheVariants.{MinimumNotMet}
use Rattle.smith_format.specs.declared.config.Config.{Config}
use Rattle.smith_syntax.specs.Marks.{room_size, small_size}
use Rattle.smith_tree.specs.Marking.{marked_inner}
use Rattle.smith_tree.specs.Offers.{scalar_functions}
use Rattle.smith_tree.specs.TypeOffers.{ref_places}
use Rattle.smith_tree.specs.declared.choices.RefKind.TheVariants.{Func}
use Rattle.smith_tree.specs.Spaces.{spaces_of, types_of}
use Rattle.smith_tree.specs.Tree.{Tree, imports_of, function_count}

-- There are at least that many, or a minimum is not met.
abbrev pub IsMinimum : {T : Type 0} → Result T Error → ℕ → ℕ → Type 0
IsMinimum result min count = MatchResult result (λ _. min ≤ count) (λ e. (e ≡ MinimumNotMet) × (count < min))

-- how many imports are missing
abbrev pub missing_imports : Config → Tree → ℕ
missing_imports config t = config.min_imports - length (imports_of t)

-- how many functions are missing
abbrev pub missing_functions : Config → Tree → ℕ
missing_functions config t = config.min_funcs - function_count t

-- Nothing is missing.
pub record HasEnough (config : Config) (t : Tree) : Type 0 where
  pub imports : config.min_imports ≤ length (imports_of t)
  pub functions : config.min_funcs ≤ function_count t

-- Only imports are missing, and functions may be imported for all of them: the component has room for them too, if its size is
-- kept.
pub record CanImport (config : Config) (outer : List Tree) (t : Tree) : Type 0 where
  pub functions : config.min_funcs ≤ function_count t
  pub has_type : 0 < length (ref_places (marked_inner config outer t) true Func)
  pub room : function_count t + missing_imports config t ≤ config.max_funcs
  pub lasting : config.must_validate ≡ true → (marked_inner config outer t).size + missing_imports config t * small_size ≤ room_size + small_size

-- Only functions are missing, one can be lowered, and there is room for the types that lifts define.
pub record CanLower (config : Config) (t : Tree) : Type 0 where
  pub imports : config.min_imports ≤ length (imports_of t)
  pub types : config.min_types ≤ length (types_of t)
  pub has_scalar : 0 < length (scalar_functions (spaces_of t))
  pub room : length (types_of t) + missing_functions config t ≤ config.max_types

-- A component with these parts can be finished.
abbrev pub CanFill : Config → List Tree → Tree → Type 0
CanFill config outer t = HasEnough config t ⊎ CanImport config outer t ⊎ CanLower config t
