-- A builder's fields, and what is true of them.
use Rattle.std.specs.Prelude.{◌∷◌, map}
use Rattle.std.specs.List.{AllByRecursion}
use Rattle.smith_scopes.specs.Scopes.{inward_marked}
use Rattle.smith_component.specs.Building.{Building, open_of}
use Rattle.smith_component.specs.Sound.{IsReadSoFar, TracksStack}
use Rattle.smith_component.specs.Tables.{IsTabled}
use Rattle.smith_component.specs.declared.builder.Progress.{Progress}
use Rattle.smith_tree.specs.Open.{Open}

abbrev pub building_of : Progress → Building
building_of b = record { config = b.config; outer = map (λ c. c.sections.items) b.outer.items; inner = b.inner.sections.items }

-- the open components as plain trees
abbrev pub stack_of : Progress → Open
stack_of b = open_of (building_of b)

abbrev pub IsSound : Progress → Type 0
IsSound b =
    TracksStack b.config (inward_marked b.scopes) b.totals (open_of (building_of b)) × AllByRecursion IsTabled (b.inner ∷ b.outer.items)

-- A builder between turns: what it holds is sound, and was made from an input.
pub record IsBuilt (b : Progress) : Type 0 where
  pub sound : IsSound b
  pub so_far : IsReadSoFar b.config (stack_of b)
