-- What is found of a component that was read.
use Rattle.std.specs.Prelude.{◌<◌}
use Rattle.smith_tree.specs.Tree.{Tree}
use Rattle.smith_tree.specs.WellFormed.{WellFormed}
use Rattle.smith_read.specs.Items.{items}
use Rattle.smith_verdict.specs.Answers.{Breaks, IsBounded, IsSound}
use Rattle.smith_verdict.specs.declared.finding.Finding.{Finding}
use Rattle.smith_verdict.specs.declared.finding.Finding.TheVariants.{Valid, Invalid, Bound, Outside}

-- It is so, and there is such an item.
abbrev pub IsFound : Tree → Finding → Type 0
IsFound t Valid = IsSound t
IsFound t (Invalid reason item) = Breaks reason t × (item < items t)
IsFound t (Bound bound item) = WellFormed t × (¬ IsBounded t) × (item < items t)
IsFound t (Outside why item) = (¬ IsSound t) × (item < items t)
