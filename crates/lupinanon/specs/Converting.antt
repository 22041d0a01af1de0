-- What is written within the limits that a table of TOML sets, and why nothing is.
use Rattle.std.specs.Prelude.{◌≡◌, ℕ, List, length, ⊤, Option}
use Rattle.toml.specs.Data.{Members}
use Rattle.smith_component.specs.declared.Config.{Config}
use Rattle.smith_format.specs.Consistency.{IsDefault}
use Rattle.smith_limits.specs.Limits.{IsRefused, SetsLimits}
use Rattle.smith_run.specs.Running.{ComesAfterReading, GivesAll, IsRefusedOn, Writes}
use Rattle.smith_run.specs.declared.running.Form.{Form}
use Rattle.lupinanon.specs.declared.generating.WithinError.{WithinError}
use Rattle.lupinanon.specs.declared.generating.WithinError.TheVariants.{Limits, Run}

-- The component that is made of the whole input within the limits that the table sets is written in the form, and that many bytes of the
-- input are left. The reader goes from `before` to `after`, and the writer from `old` to `new`.
abbrev pub WritesWithin : Members → Form → Option (List ℕ) → Option (List ℕ) → Option (List ℕ) → Option (List ℕ) → ℕ → Type 0
WritesWithin members form before after old new count =
    (config : Config) × SetsLimits members config
    × ((input left : List ℕ) × (count ≡ length left) × GivesAll before after input × Writes config form input left old new)

-- Why nothing is: the table sets no limits, or the run within the limits that it sets fails. What happens only after reading happens
-- after the whole input is read, and a refusal is one of making a component of it.
abbrev pub IsWithinError : Members → Option (List ℕ) → Option (List ℕ) → WithinError → Type 0
IsWithinError members before after (Limits fault) = (default : Config) → IsDefault default → IsRefused members default fault
IsWithinError members before after (Run error) =
    (config : Config) × SetsLimits members config
    × (ComesAfterReading error → (input : List ℕ) × GivesAll before after input × IsRefusedOn config input error)

-- the table sets no limits
abbrev pub IsOfLimits : WithinError → Type 0
IsOfLimits (Limits fault) = ⊤
IsOfLimits (Run error) = ⊥
