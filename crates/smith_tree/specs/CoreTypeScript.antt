-- The input that a core type is read from: what a script says of it.
use Rattle.std.specs.Prelude.{ℕ, ◌-◌, List, [], ◌++◌, nat_le, if◌then◌else◌}
use Rattle.smith_input.specs.Script.{pick}
use Rattle.smith_format.specs.CoreScript as core
use Rattle.smith_format.specs.CoreTypes.{Function}
use Rattle.smith_format.specs.Limits.{configured}
use Rattle.smith_format.specs.declared.config.Config.{Config}
use Rattle.smith_format.specs.Limits.{max_results}
use Rattle.smith_syntax.specs.Entries.{CoreEntry, core_func, core_module}
use Rattle.smith_syntax.specs.Scope.{Scope}
use Rattle.smith_tree.specs.ModuleScript.{script_module}

-- a core function type: the first of two, and then its parameters and its results
abbrev pub script_core_type : Config → Function → List ℕ
script_core_type config f = pick 2 0 ++ core.script_function (configured config) (max_results config) f

-- A core type with that much fuel: a function type, or the second of two and a module type. If the fuel does not last,
-- it is the empty module type, and nothing is read.
abbrev pub script_core : Config → Scope → ℕ → CoreEntry → List ℕ
script_core config around fuel (core_func f) = script_core_type config f
script_core config around fuel (core_module ds) = if nat_le 2 fuel then pick 2 1 ++ script_module config around (fuel - 1) ds else []
