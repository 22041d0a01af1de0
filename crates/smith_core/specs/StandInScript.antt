-- Which core modules stand for generated ones, the input that each is read from, and how each is found again from its bytes.
use Rattle.std.specs.Prelude.{ℕ, zero, suc, ◌≤◌, false, nat_eq, nat_le, if◌then◌else◌, List, [], ◌∷◌, ◌++◌, length, map, take, drop, min, Option, Some, None}
use Rattle.std.specs.List.{AllByRecursion}
use Rattle.smith_input.specs.Script.{script_loop}
use Rattle.smith_format.specs.CoreFormed.{FormedFunction, FormedMemory}
use Rattle.smith_format.specs.CoreScript.{script_function, script_memory}
use Rattle.smith_format.specs.CoreTypes.{Function}
use Rattle.smith_format.specs.Limits.{configured, max_results}
use Rattle.smith_format.specs.declared.config.Config.{Config}
use Rattle.smith_format.specs.declared.types.MemoryType.{MemoryType}
use Rattle.smith_format.specs.declared.types.RefType.TheVariants.{FuncRef, ExternRef}
use Rattle.smith_format.specs.declared.types.ValType.{ValType}
use Rattle.smith_format.specs.declared.types.ValType.TheVariants.{I32, I64, F32, F64, V128, Ref}
use Rattle.smith_core.specs.StandInText.{StandIn}

-- at most 20 function types, and as many memories as the limits allow
pub record IsStandIn (config : Config) (s : StandIn) : Type 0 where
  pub few_types : length s.types ≤ min config.max_types 20
  pub types : AllByRecursion (FormedFunction (configured config) (max_results config)) s.types
  pub enough_memories : config.min_memories ≤ length s.memories
  pub few_memories : length s.memories ≤ config.max_memories
  pub memories : AllByRecursion FormedMemory s.memories

-- the function types, and then the memories
abbrev pub script_stand_in : Config → StandIn → List ℕ
script_stand_in config s =
    script_loop (λ (u : Unit {0}) f. script_function (configured config) (max_results config) f) (λ u f. u) 0 (min config.max_types 20) 0 tt s.types
    ++ script_loop (λ (u : Unit {0}) m. script_memory m) (λ u m. u) config.min_memories config.max_memories 0 tt s.memories

-- the value type of a byte
abbrev pub value_of : ℕ → ValType
value_of b =
    if nat_eq b 0x7f
    then I32
    else (
    if nat_eq b 0x7e
    then I64
    else (
    if nat_eq b 0x7d
    then F32
    else (if nat_eq b 0x7c then F64 else (if nat_eq b 0x7b then V128 else (if nat_eq b 0x70 then Ref FuncRef else Ref ExternRef)))
    )
    )

-- what is after a number in LEB128: bytes of at least 128, and one more
abbrev pub past_number : List ℕ → List ℕ
past_number [] = []
past_number (b ∷ bs) = if nat_le 128 b then past_number bs else bs

-- a byte that counts value types, that many of them, and what is after
abbrev pub values_of : List ℕ → List ValType × List ℕ
values_of [] = ([], [])
values_of (count ∷ bs) = (map value_of (take count bs), drop count bs)

-- a function type, whose first byte is 0x60, and what is after
abbrev pub function_of : List ℕ → Function × List ℕ
function_of bs = let params = values_of (drop 1 bs) in let results = values_of params.1 in ((params.0, results.0), results.1)

-- that many function types, and what is after
abbrev pub functions_from : ℕ → List ℕ → List Function × List ℕ
functions_from zero bs = ([], bs)
functions_from (suc more) bs = let first = function_of bs in let others = functions_from more first.1 in (first.0 ∷ others.0, others.1)

-- a byte that counts function types, that many of them, and what is after
abbrev pub counted_functions : List ℕ → List Function × List ℕ
counted_functions [] = ([], [])
counted_functions (count ∷ bs) = functions_from count bs

-- the function types of a type section, if there is one, and what is after
abbrev pub types_from : List ℕ → List Function × List ℕ
types_from [] = ([], [])
types_from (id ∷ bs) = if nat_eq id 1 then counted_functions (past_number bs) else ([], id ∷ bs)

-- a memory type
abbrev pub memory_of : ℕ → Option ℕ → MemoryType
memory_of minimum maximum = record { minimum = minimum; maximum = maximum; shared = false; memory64 = false }

-- memory types to the end: a byte that is 0 if there is no maximum, the minimum, and the maximum
abbrev pub all_memories : List ℕ → List MemoryType
all_memories [] = []
all_memories (flag ∷ []) = []
all_memories (zero ∷ minimum ∷ bs) = memory_of minimum None ∷ all_memories bs
all_memories (suc flag ∷ minimum ∷ []) = []
all_memories (suc flag ∷ minimum ∷ maximum ∷ bs) = memory_of minimum (Some maximum) ∷ all_memories bs

-- the memory types of a memory section, if there is one
abbrev pub memories_of : List ℕ → List MemoryType
memories_of [] = []
memories_of (id ∷ bs) = if nat_eq id 5 then all_memories (past_number (past_number bs)) else []

-- the function types and the memories of these bytes, which are a stand-in's
abbrev pub stand_in_of : List ℕ → StandIn
stand_in_of bs = let types = types_from (drop 8 bs) in record { types = types.0; memories = memories_of types.1 }
