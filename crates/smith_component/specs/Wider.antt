-- Which limits are wider than others.
use Rattle.std.specs.Prelude.{◌≡◌, ◌≤◌, true}
use Rattle.smith_format.specs.declared.config.Config.{Config}

-- Each minimum is at most the narrow limits' minimum, each maximum at least theirs, each feature is on if it is on there, and components must validate
-- only if they must there.
pub record AreWider (wide narrow : Config) : Type 0 where
  pub min_types : wide.min_types ≤ narrow.min_types
  pub min_imports : wide.min_imports ≤ narrow.min_imports
  pub min_funcs : wide.min_funcs ≤ narrow.min_funcs
  pub min_memories : wide.min_memories ≤ narrow.min_memories
  pub max_types : narrow.max_types ≤ wide.max_types
  pub max_imports : narrow.max_imports ≤ wide.max_imports
  pub max_funcs : narrow.max_funcs ≤ wide.max_funcs
  pub max_exports : narrow.max_exports ≤ wide.max_exports
  pub max_globals : narrow.max_globals ≤ wide.max_globals
  pub max_tables : narrow.max_tables ≤ wide.max_tables
  pub max_tags : narrow.max_tags ≤ wide.max_tags
  pub max_memories : narrow.max_memories ≤ wide.max_memories
  pub max_modules : narrow.max_modules ≤ wide.max_modules
  pub max_components : narrow.max_components ≤ wide.max_components
  pub max_instances : narrow.max_instances ≤ wide.max_instances
  pub max_nesting_depth : narrow.max_nesting_depth ≤ wide.max_nesting_depth
  pub max_type_size : narrow.max_type_size ≤ wide.max_type_size
  pub max_name_length : narrow.max_name_length ≤ wide.max_name_length
  pub multi_value : narrow.multi_value_enabled ≡ true → wide.multi_value_enabled ≡ true
  pub exceptions : narrow.exceptions_enabled ≡ true → wide.exceptions_enabled ≡ true
  pub reference_types : narrow.reference_types_enabled ≡ true → wide.reference_types_enabled ≡ true
  pub simd : narrow.simd_enabled ≡ true → wide.simd_enabled ≡ true
  pub floats : narrow.allow_floats ≡ true → wide.allow_floats ≡ true
  pub must_validate : wide.must_validate ≡ true → narrow.must_validate ≡ true
