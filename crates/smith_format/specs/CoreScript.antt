-- The input that core function types and limits are read from: what a script says of them.
use Rattle.std.specs.Prelude.{ℕ, ◌+◌, ◌-◌, List, [], ◌∷◌, ◌++◌, Option, Some, None}
use Rattle.smith_input.specs.Script.{pick, script_among, script_loop}
use Rattle.smith_format.specs.CoreTypes.{Function}
use Rattle.smith_format.specs.Equality.{same_val}
use Rattle.smith_format.specs.declared.types.MemoryType.{MemoryType}
use Rattle.smith_format.specs.declared.types.ValType.{ValType}

-- at most max value types, each one of these
abbrev pub script_values : List ValType → ℕ → List ValType → List ℕ
script_values valtypes max xs = script_loop (λ (s : Unit {0}) (x : ValType). script_among same_val valtypes x) (λ s x. tt) 0 max 0 tt xs

-- the parameters, and then the results
abbrev pub script_function : List ValType → ℕ → Function → List ℕ
script_function valtypes max_results f = script_values valtypes 20 f.0 ++ script_values valtypes max_results f.1

-- a number from `low` to `high`
abbrev pub script_between : ℕ → ℕ → ℕ → List ℕ
script_between low high n = pick (high - low + 1) (n - low)

-- limits: the minimum, and the maximum or none
abbrev pub script_maximum : ℕ → Option ℕ → List ℕ
script_maximum minimum None = 0 ∷ []
script_maximum minimum (Some n) = 1 ∷ script_between minimum 20 n

abbrev pub script_limits : ℕ → Option ℕ → List ℕ
script_limits minimum maximum = script_between 0 10 minimum ++ script_maximum minimum maximum

-- a memory type
abbrev pub script_memory : MemoryType → List ℕ
script_memory m = script_limits m.minimum m.maximum
