-- The limits of a config, as counts over a finished tree, and how much fuel types need.
use Rattle.std.specs.Prelude.{ℕ, ◌+◌, ◌≤◌, List, ◌∷◌, length, max}
use Rattle.std.specs.List.{AllByRecursion}
use Rattle.smith_format.specs.declared.config.Config.{Config}
use Rattle.smith_syntax.specs.CoreLimits.{CoreLimits}
use Rattle.smith_syntax.specs.Entries.{Entry, CoreEntry}
use Rattle.smith_syntax.specs.TypeLimits.{EntryLimits}
use Rattle.smith_tree.specs.CoreTypeNeeds.{core_need}
use Rattle.smith_tree.specs.TypeNeeds.{need}
use Rattle.smith_tree.specs.Spaces.{core_types_of, types_of}
use Rattle.smith_tree.specs.Tree.{Tree, own, inside, module_count, component_count, instance_count, depth, names_in}
use Rattle.smith_tree.specs.Tree.{declared_depth, exports_of, function_count, imports_of}

-- how deep components may be, the root at 1
abbrev pub max_depth : Config → ℕ
max_depth config = max config.max_nesting_depth 1

-- The most that each component has by itself: names count in bytes, functions if imported, lifted or lowered.
pub record OwnLimits (config : Config) (tree : Tree) : Type 0 where
  pub types : length (types_of tree) ≤ config.max_types
  pub core_types : length (core_types_of tree) ≤ config.max_types
  pub imports : length (imports_of tree) ≤ config.max_imports
  pub functions : function_count tree ≤ config.max_funcs
  pub exports : length (exports_of tree) ≤ config.max_exports
  pub within_types : AllByRecursion (EntryLimits config) (types_of tree)
  pub within_core_types : AllByRecursion (CoreLimits config) (core_types_of tree)
  pub names : AllByRecursion (λ name. length name ≤ 1000) (own names_in tree)

-- The most that the whole tree has. Types that component types and instance types declare are no deeper than components.
pub record Maxima (config : Config) (tree : Tree) : Type 0 where
  pub each : AllByRecursion (OwnLimits config) (tree ∷ inside tree)
  pub modules : module_count tree ≤ config.max_modules
  pub components : component_count tree ≤ config.max_components
  pub instances : instance_count tree ≤ config.max_instances
  pub depth : depth tree ≤ max_depth config
  pub declared : declared_depth tree ≤ max_depth config

-- the least that each component has, when it is finished
pub record Minima (config : Config) (tree : Tree) : Type 0 where
  pub types : config.min_types ≤ length (types_of tree)
  pub imports : config.min_imports ≤ length (imports_of tree)
  pub functions : config.min_funcs ≤ function_count tree

-- what a finished tree keeps
pub record Limits (config : Config) (tree : Tree) : Type 0 where
  pub maxima : Maxima config tree
  pub minima : AllByRecursion (Minima config) (tree ∷ inside tree)

-- No type needs more fuel than there was.
abbrev pub SmallTypes : Config → List Entry → Type 0
SmallTypes config es = AllByRecursion (λ e. need e ≤ config.max_type_size) es

-- nor does a core type
abbrev pub SmallCoreTypes : Config → List CoreEntry → Type 0
SmallCoreTypes config es = AllByRecursion (λ e. core_need e ≤ config.max_type_size) es

abbrev pub OwnSizes : Config → Tree → Type 0
OwnSizes config t = SmallTypes config (types_of t) × SmallCoreTypes config (core_types_of t)

-- the same in the components at every depth
abbrev pub Sized : Config → Tree → Type 0
Sized config tree = AllByRecursion (OwnSizes config) (tree ∷ inside tree)
