-- The limits as C lays them out.
use Rattle.std.specs.Prelude.{ℕ, Bool, true, false}
use Rattle.smith_format.specs.declared.config.Config.{Config}
use Rattle.smith_c.specs.declared.limits.Limits.{Limits}

-- the byte that says whether a feature is on
abbrev pub byte_of : Bool → ℕ
byte_of false = 0
byte_of true = 1

-- the limits of a configuration, field by field
abbrev pub limits_of : Config → Limits
limits_of c =
    record {
      min_types = c.min_types;
      min_imports = c.min_imports;
      min_funcs = c.min_funcs;
      min_memories = c.min_memories;
      max_types = c.max_types;
      max_imports = c.max_imports;
      max_funcs = c.max_funcs;
      max_exports = c.max_exports;
      max_globals = c.max_globals;
      max_tables = c.max_tables;
      max_tags = c.max_tags;
      max_memories = c.max_memories;
      max_modules = c.max_modules;
      max_components = c.max_components;
      max_instances = c.max_instances;
      max_nesting_depth = c.max_nesting_depth;
      max_type_size = c.max_type_size;
      multi_value_enabled = byte_of c.multi_value_enabled;
      exceptions_enabled = byte_of c.exceptions_enabled;
      reference_types_enabled = byte_of c.reference_types_enabled;
      simd_enabled = byte_of c.simd_enabled;
      allow_floats = byte_of c.allow_floats;
      bulk_memory_enabled = byte_of c.bulk_memory_enabled;
      must_validate = byte_of c.must_validate;
      finish_after = c.finish_after;
      max_name_length = c.max_name_length;
      loop_bits = c.loop_bits;
    }
