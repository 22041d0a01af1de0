-- Which core modules stand for generated ones.
use Rattle.std.specs.Prelude.{◌≡◌, ℕ, List, Option, None, Some}
use Rattle.std.specs.declared.alloc.Global.{Global}
use Rattle.std.specs.declared.vec.Vec.{Vec}
use Rattle.smith_format.specs.declared.config.Config.{Config}
use Rattle.smith_core.specs.Module.{module_text}
use Rattle.smith_core.specs.StandIn.{ReadsStandIn}
use Rattle.smith_core.specs.StandInScript.{IsStandIn}
use Rattle.smith_core.specs.StandInText.{StandIn, stand_in_text}
use Rattle.smith_core.specs.declared.module.parts.ModuleParts.{ModuleParts}

-- The bytes are function types and memories within the limits, as a core module.
abbrev pub IsStandInText : Config → List ℕ → Type 0
IsStandInText config text = (s : StandIn) × IsStandIn config s × (stand_in_text s ≡ Some text)

-- A core module of these bytes is read from the input, or none that has bytes.
abbrev pub IsMade : Config → List ℕ → Option (Vec ℕ Global) → Type 0
IsMade config input (Some b) = (m : ModuleParts) × (rest : List ℕ) × ReadsStandIn config input m rest × (module_text m ≡ Some b.items)
IsMade config input None = (m : ModuleParts) (rest : List ℕ) → ReadsStandIn config input m rest → module_text m ≡ None
