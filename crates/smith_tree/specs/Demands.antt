-- Which of a validator's demands are asked.
use Rattle.std.specs.Prelude.{Bool, true, false}

-- that what is imported and exported is named; effective sizes; how many entries there are; how many memories a core module has or a module type
-- imports; and how many tables a module type imports
pub record Demands : Type 0 where
  pub names : Bool
  pub sizes : Bool
  pub counts : Bool
  pub memories : Bool
  pub tables : Bool

abbrev pub everything : Demands
everything = record { names = true; sizes = true; counts = true; memories = true; tables = true }

-- It holds, if it is asked.
abbrev pub Keeps : Bool → Type 0 → Type 0
Keeps true P = P
Keeps false P = Unit {0}
