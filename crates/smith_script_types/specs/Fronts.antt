-- Core function types of i32 alone.
use Rattle.std.specs.Prelude.{ℕ, zero, suc, List, [], ◌∷◌}
use Rattle.smith_format.specs.CoreTypes.{Function}
use Rattle.smith_format.specs.declared.types.ValType.{ValType}
use Rattle.smith_format.specs.declared.types.ValType.TheVariants.{I32}
use Rattle.std.specs.Prelude.{min}
use Rattle.smith_input.specs.Script.{script_loop}
use Rattle.smith_format.specs.CoreScript.{script_function, script_memory}
use Rattle.smith_format.specs.Limits.{configured, max_results}
use Rattle.smith_format.specs.declared.config.Config.{Config}
use Rattle.smith_format.specs.declared.types.MemoryType.{MemoryType}

abbrev pub i32s : ℕ → List ValType
i32s zero = []
i32s (suc n) = I32 ∷ i32s n

abbrev pub i32_function : ℕ → ℕ → Function
i32_function params results = (i32s params, i32s results)

-- The two lists of what stands for a generated core module, that many of each being said.

abbrev pub script_functions : Config → ℕ → List Function → List ℕ
script_functions config done fs =
    script_loop (λ (u : Unit {0}) f. script_function (configured config) (max_results config) f) (λ u f. u) 0 (min config.max_types 20) done tt fs

abbrev pub script_memories : Config → ℕ → List MemoryType → List ℕ
script_memories config done ms = script_loop (λ (u : Unit {0}) m. script_memory m) (λ u m. u) config.min_memories config.max_memories done tt ms
