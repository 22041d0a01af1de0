-- What a judgement says.
use Rattle.std.specs.Prelude.{ℕ, ◌+◌, true, false}
use Rattle.smith_tree.specs.Tree.{Tree}
use Rattle.smith_tree.specs.WellFormed.{WellFormed}
use Rattle.smith_read.specs.Items.{upto}
use Rattle.smith_tree.specs.Demands.{Demands}
use Rattle.smith_tree.specs.Validates.{ValidTree, Validates}
use Rattle.smith_validate.specs.declared.error.Demand.TheVariants.{Named, Size, Count, Memories, Tables}
use Rattle.smith_validate.specs.declared.error.Demand.{Demand}
use Rattle.smith_validate.specs.declared.error.Validity.{Validity}
use Rattle.smith_validate.specs.declared.error.Validity.TheVariants as validity

abbrev pub nothing : Demands
nothing = record { names = false; sizes = false; counts = false; memories = false; tables = false }

-- that demand alone
abbrev pub asking : Demand → Demands
asking Named = record nothing { names = true }
asking Size = record nothing { sizes = true }
asking Count = record nothing { counts = true }
asking Memories = record nothing { memories = true }
asking Tables = record nothing { tables = true }

-- That demand is not met.
abbrev pub IsUnmet : Demand → Tree → Type 0
IsUnmet demand t = ¬ (ValidTree (asking demand) t)

-- Names are judged if the component is well formed, and bounds always.
abbrev pub IsJudged : Demand → Tree → Type 0
IsJudged Named t = WellFormed t
IsJudged Size t = Unit {0}
IsJudged Count t = Unit {0}
IsJudged Memories t = Unit {0}
IsJudged Tables t = Unit {0}

-- What precedes that item meets all demands. The component, and what ends with the item, does not meet that one.
pub record FallsShort (demand : Demand) (item : ℕ) (t : Tree) : Type 0 where
  pub before : Validates (upto item t)
  pub there : IsJudged demand t → IsUnmet demand t × IsUnmet demand (upto (item + 1) t)

-- It is `Valid` only if all demands are met, and `Invalid` only if the demand that it names is not, from that item on.
abbrev pub IsOutcome : Tree → Validity → Type 0
IsOutcome t validity.Valid = Validates t
IsOutcome t (validity.Invalid shortfall) = FallsShort shortfall.demand shortfall.item t
