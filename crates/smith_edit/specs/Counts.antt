-- How many entries there are in each index space, and which maxima of the limits a component keeps.
use Rattle.std.specs.Prelude.{ℕ, ◌+◌, ◌≤◌, ◌∷◌, length}
use Rattle.std.specs.List.{AllByRecursion}
use Rattle.smith_format.specs.declared.config.Config.{Config}
use Rattle.smith_tree.specs.Spaces.{Spaces, core_types_of, types_of}
use Rattle.smith_tree.specs.Tree.{anywhere_in, components_in, imported_components_in, imported_instances_in, imported_modules_in, modules_in}
use Rattle.smith_tree.specs.Tree.{Tree, Part, component_count, exports_of, function_count, imports_of, inside, instance_count, module_count}
use Rattle.smith_edit.specs.declared.counts.Counts.{Counts}

abbrev pub counts_of : Spaces → Counts
counts_of s = record {
  types = length s.types;
  core_types = length s.core_types;
  functions = length s.functions;
  core_functions = length s.core_functions;
}

-- A component by itself keeps the maxima of its types, core types, imports, functions and exports.
pub record KeepsOwnMaxima (config : Config) (t : Tree) : Type 0 where
  pub types : length (types_of t) ≤ config.max_types
  pub core_types : length (core_types_of t) ≤ config.max_types
  pub imports : length (imports_of t) ≤ config.max_imports
  pub functions : function_count t ≤ config.max_funcs
  pub exports : length (exports_of t) ≤ config.max_exports

-- So does each component inside it, and the whole keeps the maxima of its core modules, components and instances.
pub record KeepsMaxima (config : Config) (t : Tree) : Type 0 where
  pub each : AllByRecursion (KeepsOwnMaxima config) (t ∷ inside t)
  pub modules : module_count t ≤ config.max_modules
  pub components : component_count t ≤ config.max_components
  pub instances : instance_count t ≤ config.max_instances

-- how many core modules, components and instances a section and the components inside it have, including imported ones

abbrev pub modules_within : Part → ℕ
modules_within p = length (anywhere_in modules_in p) + length (anywhere_in imported_modules_in p)

abbrev pub components_within : Part → ℕ
components_within p = length (anywhere_in components_in p) + length (anywhere_in imported_components_in p)

abbrev pub instances_within : Part → ℕ
instances_within p = length (anywhere_in imported_instances_in p)
