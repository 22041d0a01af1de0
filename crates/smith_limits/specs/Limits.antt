-- The limits by name, the limits that a table of TOML sets, and why it sets none.
use lib.Pointwise.{pointwise}
use Rattle.std.specs.Prelude.{if◌then◌else◌, ◌≡◌, ◌≢◌, ℕ, ◌+◌, ◌≤◌, ◌<◌, eqb, nat_lt, ℤ, pos, negsuc, Bool, true, false, not, ◌&&◌}
use Rattle.std.specs.Prelude.{List, [], ◌∷◌, Option, Some, None, codes, unwrap_or, string_bytes}
use Rattle.std.specs.List.{find, list_any}
use Rattle.std.specs.Option.{is_some}
use Rattle.toml.specs.Data.{Data, as_bool, as_integer, boolean, integer, Members, no_members, member, get_member}
use Rattle.smith_format.specs.Consistency.{IsConsistent, IsDefault, max_u32}
use Rattle.smith_format.specs.declared.config.Config.{Config}
use Rattle.smith_limits.specs.declared.keys.Key.{Key}
use Rattle.smith_limits.specs.declared.keys.Key.TheVariants.{MinTypes, MinImports, MinFuncs, MinMemories, MaxTypes, MaxImports, MaxFuncs}
use Rattle.smith_limits.specs.declared.keys.Key.TheVariants.{MaxExports, MaxGlobals, MaxTables, MaxTags, MaxMemories, MaxModules, MaxComponents}
use Rattle.smith_limits.specs.declared.keys.Key.TheVariants.{MaxInstances, MaxNestingDepth, MaxTypeSize, MultiValueEnabled, ExceptionsEnabled}
use Rattle.smith_limits.specs.declared.keys.Key.TheVariants.{ReferenceTypesEnabled, SimdEnabled, AllowFloats, BulkMemoryEnabled, FinishAfter}
use Rattle.smith_limits.specs.declared.keys.Key.TheVariants.{MaxNameLength, LoopBits, MustValidate}
use Rattle.smith_limits.specs.declared.limits.Fault.{Fault}
use Rattle.smith_limits.specs.declared.limits.Fault.TheVariants.{Unknown, At, Apart, OutOfMemory}
use Rattle.smith_limits.specs.declared.limits.Pair.{Pair}
use Rattle.smith_limits.specs.declared.limits.Pair.TheVariants.{Types, Imports, Funcs, Exports, ValidTypes, ValidExports}
use Rattle.smith_limits.specs.declared.limits.Pair.TheVariants.{ValidModules, ValidComponents, ValidInstances, ValidMemories}
use Rattle.smith_limits.specs.declared.keys.Wrong.{Wrong}
use Rattle.smith_limits.specs.declared.keys.Wrong.TheVariants.{NoInteger, NoBoolean, Negative, TooLarge}

-- its name
abbrev pub name_of : Key → List ℕ
name_of MinTypes = codes "min_types"
name_of MinImports = codes "min_imports"
name_of MinFuncs = codes "min_funcs"
name_of MinMemories = codes "min_memories"
name_of MaxTypes = codes "max_types"
name_of MaxImports = codes "max_imports"
name_of MaxFuncs = codes "max_funcs"
name_of MaxExports = codes "max_exports"
name_of MaxGlobals = codes "max_globals"
name_of MaxTables = codes "max_tables"
name_of MaxTags = codes "max_tags"
name_of MaxMemories = codes "max_memories"
name_of MaxModules = codes "max_modules"
name_of MaxComponents = codes "max_components"
name_of MaxInstances = codes "max_instances"
name_of MaxNestingDepth = codes "max_nesting_depth"
name_of MaxTypeSize = codes "max_type_size"
name_of MultiValueEnabled = codes "multi_value_enabled"
name_of ExceptionsEnabled = codes "exceptions_enabled"
name_of ReferenceTypesEnabled = codes "reference_types_enabled"
name_of SimdEnabled = codes "simd_enabled"
name_of AllowFloats = codes "allow_floats"
name_of BulkMemoryEnabled = codes "bulk_memory_enabled"
name_of FinishAfter = codes "finish_after"
name_of MaxNameLength = codes "max_name_length"
name_of LoopBits = codes "loop_bits"
name_of MustValidate = codes "must_validate"

-- what it is, as a value of TOML
abbrev pub value_of : Config → Key → Data
value_of c MinTypes = integer (pos c.min_types)
value_of c MinImports = integer (pos c.min_imports)
value_of c MinFuncs = integer (pos c.min_funcs)
value_of c MinMemories = integer (pos c.min_memories)
value_of c MaxTypes = integer (pos c.max_types)
value_of c MaxImports = integer (pos c.max_imports)
value_of c MaxFuncs = integer (pos c.max_funcs)
value_of c MaxExports = integer (pos c.max_exports)
value_of c MaxGlobals = integer (pos c.max_globals)
value_of c MaxTables = integer (pos c.max_tables)
value_of c MaxTags = integer (pos c.max_tags)
value_of c MaxMemories = integer (pos c.max_memories)
value_of c MaxModules = integer (pos c.max_modules)
value_of c MaxComponents = integer (pos c.max_components)
value_of c MaxInstances = integer (pos c.max_instances)
value_of c MaxNestingDepth = integer (pos c.max_nesting_depth)
value_of c MaxTypeSize = integer (pos c.max_type_size)
value_of c MultiValueEnabled = boolean c.multi_value_enabled
value_of c ExceptionsEnabled = boolean c.exceptions_enabled
value_of c ReferenceTypesEnabled = boolean c.reference_types_enabled
value_of c SimdEnabled = boolean c.simd_enabled
value_of c AllowFloats = boolean c.allow_floats
value_of c BulkMemoryEnabled = boolean c.bulk_memory_enabled
value_of c FinishAfter = integer (pos c.finish_after)
value_of c MaxNameLength = integer (pos c.max_name_length)
value_of c LoopBits = integer (pos c.loop_bits)
value_of c MustValidate = boolean c.must_validate

-- all of them
abbrev pub all_keys : List Key
all_keys =
    MinTypes ∷ MinImports ∷ MinFuncs ∷ MinMemories ∷ MaxTypes ∷ MaxImports ∷ MaxFuncs ∷ MaxExports ∷ MaxGlobals ∷ MaxTables ∷ MaxTags ∷ MaxMemories ∷
    MaxModules ∷ MaxComponents ∷ MaxInstances ∷ MaxNestingDepth ∷ MaxTypeSize ∷ MultiValueEnabled ∷ ExceptionsEnabled ∷ ReferenceTypesEnabled ∷
    SimdEnabled ∷ AllowFloats ∷ BulkMemoryEnabled ∷ FinishAfter ∷ MaxNameLength ∷ LoopBits ∷ MustValidate ∷ []

-- whether it is a truth value, and not a number
abbrev pub is_switch : Key → Bool
is_switch MultiValueEnabled = true
is_switch ExceptionsEnabled = true
is_switch ReferenceTypesEnabled = true
is_switch SimdEnabled = true
is_switch AllowFloats = true
is_switch BulkMemoryEnabled = true
is_switch MustValidate = true
is_switch _ = false

-- one of them has this name
abbrev pub is_name : List ℕ → Bool
is_name text = list_any (λ key. pointwise eqb (name_of key) text) all_keys

-- the greatest number that it may be by itself: what is counted in 32 bits of the written bytes, how deep components
-- nest, how long names are, how many bits a byte has, and otherwise what 64 bits hold
abbrev pub most_of : Key → ℕ
most_of MaxTypes = 4294967295
most_of MaxImports = 4294967295
most_of MaxFuncs = 4294967295
most_of MaxExports = 4294967295
most_of MaxModules = 4294967295
most_of MaxComponents = 4294967295
most_of MaxInstances = 4294967295
most_of MaxNestingDepth = 1000
most_of MaxNameLength = 100
most_of LoopBits = 8
most_of MaxTypeSize = 4294967295
most_of _ = 18446744073709551615

-- the first key of a table that no limit has
abbrev pub unknown_in : Members → Option (List ℕ)
unknown_in no_members = None
unknown_in (member key value rest) = if is_name key then unknown_in rest else Some key

-- what a table holds at a limit's name
abbrev pub value_at : Members → Key → Option Data
value_at members key = get_member (name_of key) members

-- an integer from 0 to the most is this number
abbrev pub IsInteger : ℕ → Option ℤ → ℕ → Type 0
IsInteger most (Some (pos m)) n = (n ≡ m) × (n ≤ most)
IsInteger most (Some (negsuc _)) n = ⊥
IsInteger most None n = ⊥

-- whether there is none
abbrev pub is_no_integer : ℕ → Option ℤ → Bool
is_no_integer most (Some (pos m)) = nat_lt most m
is_no_integer most (Some (negsuc _)) = true
is_no_integer most None = true

-- why there is none
abbrev pub IsNoInteger : ℕ → Option ℤ → Wrong → Type 0
IsNoInteger most (Some (pos m)) wrong = (wrong ≡ TooLarge) × (most < m)
IsNoInteger most (Some (negsuc _)) wrong = wrong ≡ Negative
IsNoInteger most None wrong = wrong ≡ NoInteger

-- whether there is a value, and it is not such a number
abbrev pub is_no_number : ℕ → Option Data → Bool
is_no_number most None = false
is_no_number most (Some value) = is_no_integer most (as_integer value)

-- why it is none
abbrev pub IsNoNumber : ℕ → Option Data → Wrong → Type 0
IsNoNumber most None wrong = ⊥
IsNoNumber most (Some value) wrong = IsNoInteger most (as_integer value) wrong

-- whether there is a value, and it is not a truth value
abbrev pub is_no_switch : Option Data → Bool
is_no_switch None = false
is_no_switch (Some value) = not (is_some (as_bool value))

-- it is none
abbrev pub IsNoSwitch : Option Data → Type 0
IsNoSwitch None = ⊥
IsNoSwitch (Some value) = as_bool value ≡ None

-- Every limit is the value at its name, or the default.
abbrev pub Sets : Members → Config → Config → Type 0
Sets members default config = (key : Key) → value_of config key ≡ unwrap_or (value_at members key) (value_of default key)

-- the two limits of a pair: of a minimum and its maximum, the minimum first; of exports and functions, the exports
abbrev pub lower_of : Pair → Key
lower_of Types = MinTypes
lower_of Imports = MinImports
lower_of Funcs = MinFuncs
lower_of Exports = MaxExports
lower_of ValidTypes = MaxTypes
lower_of ValidExports = MaxExports
lower_of ValidModules = MaxModules
lower_of ValidComponents = MaxComponents
lower_of ValidInstances = MaxInstances
lower_of ValidMemories = MaxMemories

abbrev pub upper_of : Pair → Key
upper_of Types = MaxTypes
upper_of Imports = MaxImports
upper_of Funcs = MaxFuncs
upper_of Exports = MaxFuncs
upper_of ValidTypes = MustValidate
upper_of ValidExports = MaxFuncs
upper_of ValidModules = MustValidate
upper_of ValidComponents = MustValidate
upper_of ValidInstances = MustValidate
upper_of ValidMemories = MustValidate

-- whether the two do not fit together: a minimum exceeds its maximum, functions and exports together exceed 32 bits, or components
-- must validate and may have more than a validator accepts
abbrev pub is_apart : Config → Pair → Bool
is_apart config Types = nat_lt config.max_types config.min_types
is_apart config Imports = nat_lt config.max_imports config.min_imports
is_apart config Funcs = nat_lt config.max_funcs config.min_funcs
is_apart config Exports = nat_lt max_u32 (config.max_funcs + config.max_exports)
is_apart config ValidTypes = config.must_validate && nat_lt 500000 config.max_types
is_apart config ValidExports = config.must_validate && nat_lt 1000000 (config.max_funcs + config.max_exports)
is_apart config ValidModules = config.must_validate && nat_lt 1000 config.max_modules
is_apart config ValidComponents = config.must_validate && nat_lt 1000 config.max_components
is_apart config ValidInstances = config.must_validate && nat_lt 1000 config.max_instances
is_apart config ValidMemories = config.must_validate && nat_lt 100 config.max_memories

-- what may not fit if components must validate
abbrev pub valid_pairs : List Pair
valid_pairs = ValidTypes ∷ ValidExports ∷ ValidModules ∷ ValidComponents ∷ ValidInstances ∷ ValidMemories ∷ []

-- the first pair that does not fit together
abbrev pub first_apart : Config → Option Pair
first_apart config = find (is_apart config) (Types ∷ Imports ∷ Funcs ∷ Exports ∷ valid_pairs)

-- what is wrong at a limit's name
abbrev pub IsWrong : Members → Key → Wrong → Type 0
IsWrong members key NoInteger = IsNoNumber (most_of key) (value_at members key) NoInteger
IsWrong members key NoBoolean = IsNoSwitch (value_at members key)
IsWrong members key Negative = IsNoNumber (most_of key) (value_at members key) Negative
IsWrong members key TooLarge = IsNoNumber (most_of key) (value_at members key) TooLarge

-- whether something is wrong at a limit's name
abbrev pub is_wrong : Members → Key → Bool
is_wrong members key = if is_switch key then is_no_switch (value_at members key) else is_no_number (most_of key) (value_at members key)

-- the first limit at whose name something is wrong
abbrev pub first_wrong : Members → Option Key
first_wrong members = find (is_wrong members) all_keys

-- Each key of the table is a limit, with a value that it may have. The table sets these limits, which fit together.
pub record SetsLimits (members : Members) (config : Config) : Type 0 where
  pub known : unknown_in members ≡ None
  pub right : first_wrong members ≡ None
  pub sets : (default : Config) → IsDefault default → Sets members default config
  pub fits : IsConsistent config

-- Why a table is refused. If two limits do not fit together, each by itself is fine.
abbrev pub IsRefused : Members → Config → Fault → Type 0
IsRefused members default (Unknown key) = unknown_in members ≡ Some (string_bytes key)
IsRefused members default (At key wrong) = (first_wrong members ≡ Some key) × IsWrong members key wrong
IsRefused members default (Apart pair) = (config : Config) × Sets members default config × (first_apart config ≡ Some pair)
IsRefused members default OutOfMemory = unknown_in members ≢ None

-- What is counted in the written bytes and added to nothing fits 32 bits, components nest at most 1000 deep, names have at most
-- 100 bytes, and a byte has as many bits as a loop looks at.
pub record IsBounded (config : Config) : Type 0 where
  pub types : config.max_types ≤ max_u32
  pub imports : config.max_imports ≤ max_u32
  pub modules : config.max_modules ≤ max_u32
  pub components : config.max_components ≤ max_u32
  pub instances : config.max_instances ≤ max_u32
  pub nesting : config.max_nesting_depth ≤ 1000
  pub names : config.max_name_length ≤ 100
  pub loops : config.loop_bits ≤ 8
