-- What a judgement says.
use Rattle.std.specs.Prelude.{◌≡◌}
use Rattle.smith_tree.specs.Possible.{Possible}
use Rattle.smith_tree.specs.Tree.{Tree}
use Rattle.smith_tree.specs.WellFormed.{WellFormed}
use Rattle.smith_read.specs.Items.{StopsAt}
use Rattle.smith_check.specs.declared.error.Asker.TheVariants.{Standard}
use Rattle.smith_check.specs.declared.error.Judgement.{Judgement}
use Rattle.smith_check.specs.declared.error.Judgement.TheVariants as judgement

-- It is `WellFormed` exactly if the component is well formed, and `IllFormed` exactly if it is not, with the number of
-- an item: what precedes it is well formed, and what ends with it is not. A rule that the standard asks is broken only by what is not
-- possible.
abbrev pub Agrees : Tree → Judgement → Type 0
Agrees t judgement.WellFormed = WellFormed t
Agrees t (judgement.IllFormed fault) = (¬ WellFormed t) × StopsAt WellFormed fault.item t × (fault.asked_by ≡ Standard → ¬ Possible t)
