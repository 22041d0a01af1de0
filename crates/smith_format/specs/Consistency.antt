-- Which limits fit together, and which are the defaults.
use Rattle.std.specs.Prelude.{◌≡◌, ℕ, ◌+◌, ◌≤◌, true, false}
use Rattle.smith_format.specs.declared.config.Config.{Config}

-- the most that 32 bits hold
abbrev pub max_u32 : ℕ
max_u32 = 4294967295

-- The counts are within the bounds of a validator: types and core types together, functions and exports together, and the others each.
pub record AreCountsValid (config : Config) : Type 0 where
  pub types : config.max_types ≤ 500000
  pub funcs : config.max_funcs + config.max_exports ≤ 1000000
  pub modules : config.max_modules ≤ 1000
  pub components : config.max_components ≤ 1000
  pub instances : config.max_instances ≤ 1000
  pub memories : config.max_memories ≤ 100

-- No minimum exceeds its maximum, what is counted in the written bytes fits 32 bits, components nest at most 1000 deep, names have
-- at most 100 bytes, and a byte has as many bits as a loop looks at.
pub record IsConsistent (config : Config) : Type 0 where
  pub types_cross : config.min_types ≤ config.max_types
  pub imports_cross : config.min_imports ≤ config.max_imports
  pub funcs_cross : config.min_funcs ≤ config.max_funcs
  pub types : config.max_types ≤ max_u32
  pub imports : config.max_imports ≤ max_u32
  pub funcs : config.max_funcs + config.max_exports ≤ max_u32
  pub modules : config.max_modules ≤ max_u32
  pub components : config.max_components ≤ max_u32
  pub instances : config.max_instances ≤ max_u32
  pub nesting : config.max_nesting_depth ≤ 1000
  pub names : config.max_name_length ≤ 100
  pub loops : config.loop_bits ≤ 8
  pub valid : config.must_validate ≡ true → AreCountsValid config

-- the default limits
abbrev pub IsDefault : Config → Type 0
IsDefault c =
    c
    ≡ record {
      min_types = 0;
      min_imports = 0;
      min_funcs = 0;
      min_memories = 0;
      max_types = 100;
      max_imports = 100;
      max_funcs = 100;
      max_exports = 0;
      max_globals = 100;
      max_tables = 100;
      max_tags = 100;
      multi_value_enabled = true;
      exceptions_enabled = true;
      reference_types_enabled = true;
      simd_enabled = true;
      allow_floats = true;
      bulk_memory_enabled = true;
      max_memories = 1;
      max_modules = 10;
      max_components = 10;
      max_instances = 10;
      max_nesting_depth = 10;
      max_type_size = 1000;
      finish_after = 0;
      must_validate = false;
      max_name_length = 100;
      loop_bits = 1;
    }
