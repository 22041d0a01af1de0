-- The core module that stands for a generated one: how it is read.
use Rattle.std.specs.Prelude.{◌≡◌, ℕ, ◌+◌, ◌<◌, ◌≤◌, true, false, min, List, [], ◌∷◌, length, None}
use Rattle.smith_input.specs.Loops.{Loop, Never}
use Rattle.smith_input.specs.declared.error.Error.{Error}
use Rattle.smith_input.specs.declared.error.Error.TheVariants.{InconsistentLimits, MinimumNotMet, ModuleRefused, TooLong, OutOfMemory, PartsDisagree}
use Rattle.smith_format.specs.CoreReading.{ReadsFunction, ReadsMemory}
use Rattle.smith_format.specs.CoreTypes.{Function}
use Rattle.smith_format.specs.Shown.{shown_func}
use Rattle.smith_format.specs.Limits.{configured, max_results}
use Rattle.smith_format.specs.declared.config.Config.{Config}
use Rattle.smith_format.specs.declared.types.FuncType.{FuncType}
use Rattle.smith_format.specs.declared.types.MemoryType.{MemoryType}
use Rattle.smith_core.specs.Module.{has_any}
use Rattle.smith_core.specs.declared.module.parts.ModuleParts.{ModuleParts}
use Rattle.smith_core.specs.declared.module.types.CompositeType.{CompositeType}
use Rattle.smith_core.specs.declared.module.types.CompositeType.TheVariants.{Func, Array, Struct}
use Rattle.smith_core.specs.declared.module.types.SubType.{SubType}

-- it is this function type
abbrev pub IsFunction : CompositeType → Function → Type 0
IsFunction (Func t) f = shown_func t ≡ f
IsFunction (Array t) f = ⊥
IsFunction (Struct ts) f = ⊥

-- a type of the loop: a function type of the configured value types, which is final and has no supertype
pub record ReadsSubType (config : Config) (s : Unit {0}) (bytes : List ℕ) (t : SubType) (rest : List ℕ) (r : Unit {0}) : Type 0 where
  pub function : Function
  pub reads : ReadsFunction config.loop_bits (configured config) (max_results config) bytes function rest
  pub is_final : t.is_final ≡ true
  pub supertype : t.supertype ≡ None
  pub composite : IsFunction t.composite_type function

-- a function type of the loop, of the configured value types
abbrev pub ReadsFunctionType : Config → Unit {0} → List ℕ → FuncType → List ℕ → Unit {0} → Type 0
ReadsFunctionType config s bytes f rest r = ReadsFunction config.loop_bits (configured config) (max_results config) bytes (shown_func f) rest

-- a memory of the loop
abbrev pub ReadsMemoryType : Unit {0} → List ℕ → MemoryType → List ℕ → Unit {0} → Type 0
ReadsMemoryType s bytes m rest r = ReadsMemory bytes m rest

-- a group for each type by itself
abbrev pub groups_from : ℕ → List SubType → List (ℕ × ℕ)
groups_from at [] = []
groups_from at (t ∷ ts) = (at, at + 1) ∷ groups_from (at + 1) ts

-- Types are written if there is one, all memories are defined, and there is nothing else.
pub record HasTypesAndMemories (m : ModuleParts) : Type 0 where
  pub encoded : m.should_encode_types ≡ has_any m.types.items
  pub groups : m.rec_groups.items ≡ groups_from 0 m.types.items
  pub memories : m.num_defined_memories ≡ length m.memories.items
  pub no_imports : (m.should_encode_imports ≡ false) × (m.imports.items ≡ [])
  pub no_functions : (m.funcs.items ≡ []) × (m.num_defined_funcs ≡ 0)
  pub no_tables : (m.tables.items ≡ []) × (m.defined_tables.items ≡ [])
  pub no_tags : (m.tags.items ≡ []) × (m.num_defined_tags ≡ 0)
  pub no_globals : (m.globals.items ≡ []) × (m.defined_globals.items ≡ [])
  pub no_exports : m.exports.items ≡ []
  pub no_start : m.start ≡ None
  pub no_elements : m.elems.items ≡ []
  pub no_code : m.code.items ≡ []
  pub no_data : m.data_segments.items ≡ []

-- At most 20 function types, and then as many memories as the limits allow, which do not cross.
pub record ReadsStandIn (config : Config) (bytes : List ℕ) (m : ModuleParts) (rest : List ℕ) : Type 0 where
  pub mid : List ℕ
  pub ordered : config.min_memories ≤ config.max_memories
  pub types : Loop Never (ReadsSubType config) config.loop_bits 0 (min config.max_types 20) 0 tt bytes m.types.items mid tt
  pub memories : Loop Never ReadsMemoryType config.loop_bits config.min_memories config.max_memories 0 tt mid m.memories.items rest tt
  pub bulk_memory : m.bulk_memory_enabled ≡ config.bulk_memory_enabled
  pub parts : HasTypesAndMemories m

-- A module is refused if the limits on memories cross, and otherwise only when out of memory.
abbrev pub IsStandInRefusal : Config → Error → Type 0
IsStandInRefusal config InconsistentLimits = ⊥
IsStandInRefusal config MinimumNotMet = ⊥
IsStandInRefusal config ModuleRefused = config.max_memories < config.min_memories
IsStandInRefusal config TooLong = ⊥
IsStandInRefusal config OutOfMemory = config.min_memories ≤ config.max_memories
IsStandInRefusal config PartsDisagree = ⊥
