-- What contracts see of a builder.
use Rattle.std.specs.Prelude.{List, map}
use Rattle.smith_format.specs.declared.config.Config.{Config}
use Rattle.smith_component.specs.Shown.{shown_sections}
use Rattle.smith_tree.specs.Open.{Open}
use Rattle.smith_component.specs.declared.component.Section.{Section}

-- a builder: its config, the components around the inner one, outermost first, and the inner one, each as its sections so far
pub record Building : Type 0 where
  pub config : Config
  pub outer : List (List Section)
  pub inner : List Section

-- the open components as plain trees
abbrev pub open_of : Building → Open
open_of b = record { outer = map shown_sections b.outer; inner = shown_sections b.inner }
