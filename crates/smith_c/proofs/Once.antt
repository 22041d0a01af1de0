-- Limits are one configuration's.
use Rattle.std.proofs.Common.{◌≡◌, Bool, true, false, refl, ap, arith}
use Rattle.smith_format.specs.declared.config.Config.{Config}
use Rattle.smith_c.specs.Limits.{byte_of, limits_of}

byte_once : (b d : Bool) → byte_of b ≡ byte_of d → b ≡ d
byte_once false false e = refl
byte_once false true e = absurd (omega (arith, e))
byte_once true false e = absurd (omega (arith, e))
byte_once true true e = refl

pub limits_once : (c d : Config) → limits_of c ≡ limits_of d → c ≡ d
limits_once c d e = λ i. record {
  min_types = (e i).min_types;
  min_imports = (e i).min_imports;
  min_funcs = (e i).min_funcs;
  min_memories = (e i).min_memories;
  max_types = (e i).max_types;
  max_imports = (e i).max_imports;
  max_funcs = (e i).max_funcs;
  max_exports = (e i).max_exports;
  max_globals = (e i).max_globals;
  max_tables = (e i).max_tables;
  max_tags = (e i).max_tags;
  max_memories = (e i).max_memories;
  max_modules = (e i).max_modules;
  max_components = (e i).max_components;
  max_instances = (e i).max_instances;
  max_nesting_depth = (e i).max_nesting_depth;
  max_type_size = (e i).max_type_size;
  multi_value_enabled = byte_once c.multi_value_enabled d.multi_value_enabled (ap (λ l. l.multi_value_enabled) e) i;
  exceptions_enabled = byte_once c.exceptions_enabled d.exceptions_enabled (ap (λ l. l.exceptions_enabled) e) i;
  reference_types_enabled = byte_once c.reference_types_enabled d.reference_types_enabled (ap (λ l. l.reference_types_enabled) e) i;
  simd_enabled = byte_once c.simd_enabled d.simd_enabled (ap (λ l. l.simd_enabled) e) i;
  allow_floats = byte_once c.allow_floats d.allow_floats (ap (λ l. l.allow_floats) e) i;
  bulk_memory_enabled = byte_once c.bulk_memory_enabled d.bulk_memory_enabled (ap (λ l. l.bulk_memory_enabled) e) i;
  must_validate = byte_once c.must_validate d.must_validate (ap (λ l. l.must_validate) e) i;
  finish_after = (e i).finish_after;
  max_name_length = (e i).max_name_length;
  loop_bits = (e i).loop_bits;
}
