-- What stands for a generated module is function types and memories within the limits, and the scripts of those are bytes.
use Rattle.std.proofs.Common.{◌≡◌, ℕ, ◌+◌, ◌≤◌, List, [], ◌∷◌, map, length, arith, min, Bool, true, false, if◌then◌else◌}
use Rattle.std.specs.List.{AllByRecursion}
use Rattle.smith_input.specs.Loops.{Loop, Never}
use Rattle.smith_input.proofs.Loops.{loop_all, loop_enough, loop_few, loop_map}
use Rattle.smith_input.proofs.ScriptBytes.{Small, small_join, small_turns}
use Rattle.smith_format.specs.CoreFormed.{FormedFunction, FormedMemory}
use Rattle.smith_format.specs.CoreScript.{script_function, script_memory}
use Rattle.smith_format.specs.CoreTypes.{Function}
use Rattle.smith_format.specs.Limits.{configured, max_results}
use Rattle.smith_format.specs.declared.config.Config.{Config}
use Rattle.smith_format.specs.declared.types.MemoryType.{MemoryType}
use Rattle.smith_format.proofs.CoreReading.{function_formed, memory_formed}
use Rattle.smith_format.proofs.ScriptBytes.{small_function, small_memory, all_of}
use Rattle.smith_core.specs.Module.{module_text}
use Rattle.smith_core.specs.StandIn.{ReadsStandIn}
use Rattle.smith_core.specs.StandInScript.{IsStandIn, script_stand_in}
use Rattle.smith_core.specs.StandInText.{StandIn, stand_in_text}
use Rattle.smith_core.specs.declared.module.parts.ModuleParts.{ModuleParts}
use Rattle.smith_core.proofs.StandInSame.{function_at, is_plain, shown_read, shown_stand_in, text_is, ReadsShown, IsPlain}

-- a function has at most 20 results
pub few_results : (multi : Bool) → (if multi then 20 else 1) ≤ 20
few_results true = omega arith
few_results false = omega arith

pub stand_in_made : (config : Config) (b : List ℕ) (m : ModuleParts) (rest : List ℕ) → ReadsStandIn config b m rest
    → (s : StandIn) × IsStandIn config s × (module_text m ≡ stand_in_text s)
stand_in_made config b m rest r =
    let fs : List Function = map function_at m.types.items in
    let ms : List MemoryType = m.memories.items in
    let most : ℕ = min config.max_types 20 in
    let types : Loop Never (ReadsShown config) config.loop_bits 0 most 0 tt b fs r.mid tt =
    loop_map function_at (shown_read config) 0 tt b m.types.items r.mid tt r.types in
    let count : 0 + length fs ≤ most = loop_few 0 tt b fs r.mid tt (omega arith) types in
    let some : config.min_memories ≤ 0 + length ms = loop_enough (λ s c v p e. e) r.ordered 0 tt r.mid ms rest tt r.memories in
    let most_memories : 0 + length ms ≤ config.max_memories = loop_few 0 tt r.mid ms rest tt (omega arith) r.memories in
    let plain : AllByRecursion IsPlain m.types.items = loop_all IsPlain (is_plain config) 0 tt b m.types.items r.mid tt r.types in (
      shown_stand_in m,
      record {
        few_types = omega (arith, count);
        types = loop_all (FormedFunction (configured config) (max_results config)) (λ s c f q t i. function_formed i) 0 tt b fs r.mid tt types;
        enough_memories = omega (arith, some);
        few_memories = omega (arith, most_memories);
        memories = loop_all FormedMemory (λ s c t q u i. memory_formed i) 0 tt r.mid ms rest tt r.memories;
      },
      text_is m r.parts plain,
    )

small_memories : (ms : List MemoryType) → AllByRecursion FormedMemory ms → AllByRecursion (λ m. (u : Unit {0}) → Small (script_memory m)) ms
small_memories [] all = tt
small_memories (m ∷ ms) all = (λ u. small_memory m all.0, small_memories ms all.1)

pub small_stand_in : (config : Config) (s : StandIn) → IsStandIn config s → Small (script_stand_in config s)
small_stand_in config s h =
    small_join
    (small_turns (λ (u : Unit {0}) f. script_function (configured config) (max_results config) f) (λ u f. u) 0 (min config.max_types 20) 0 tt s.types
    (all_of (λ f. (u : Unit {0}) → Small (script_function (configured config) (max_results config) f)) (λ f u. small_function config f) s.types))
    (small_turns (λ (u : Unit {0}) m. script_memory m) (λ u m. u) config.min_memories config.max_memories
    0 tt s.memories (small_memories s.memories h.memories))
