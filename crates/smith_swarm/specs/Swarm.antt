-- The limits that the first bytes of an input encode, one byte each. A byte after the end is 0.
use Rattle.std.specs.Prelude.{ℕ, ◌%◌, min, Bool, List, length, drop, nat_eq, slice_index}
use Rattle.smith_format.specs.declared.config.Config.{Config}

-- how many limits there are
abbrev pub limit_count : ℕ
limit_count = 20

-- how many bytes of the input encode them: all, if there are fewer
abbrev pub front_len : List ℕ → ℕ
front_len input = min limit_count (length input)

-- what follows those bytes
abbrev pub after_front : List ℕ → List ℕ
after_front input = drop (front_len input) input

-- the number from 0 on, below `below`, that the byte at that index encodes
abbrev pub number : List ℕ → ℕ → ℕ → ℕ
number input index below = slice_index input index % below

-- whether the byte at that index means that a feature is on
abbrev pub flag : List ℕ → ℕ → Bool
flag input index = nat_eq (slice_index input index % 2) 1

-- those limits over the ones that are given
unfoldable pub swarmed : Config → List ℕ → Config
swarmed given input =
    record {
      min_types = given.min_types;
      min_imports = given.min_imports;
      min_funcs = given.min_funcs;
      min_memories = given.min_memories;
      max_types = number input 0 256;
      max_imports = number input 1 256;
      max_funcs = number input 2 256;
      max_exports = number input 3 256;
      max_globals = number input 4 256;
      max_tables = number input 5 256;
      max_tags = number input 6 256;
      max_memories = number input 7 16;
      max_modules = number input 8 32;
      max_components = number input 9 32;
      max_instances = number input 10 32;
      max_nesting_depth = number input 11 16;
      max_type_size = number input 12 256;
      multi_value_enabled = flag input 13;
      exceptions_enabled = flag input 14;
      reference_types_enabled = flag input 15;
      simd_enabled = flag input 16;
      allow_floats = flag input 17;
      bulk_memory_enabled = flag input 18;
      must_validate = given.must_validate;
      finish_after = number input 19 16;
      max_name_length = given.max_name_length;
      loop_bits = given.loop_bits;
    }
