use Rattle.std.proofs.Common.{map}
use Rattle.std.specs.List.{AllByRecursion}
use Rattle.smith_syntax.specs.WellFormed.{FormedMaybe}
use Rattle.smith_scopes.specs.NodeScopes.{own_in}
use Rattle.smith_check.proofs.Judging.{AllLeft, Same}
use Rattle.smith_check.proofs.values.check_values.Given as goal

abbrev pub invariant-loop-item : goal.invariant-loop-item
invariant-loop-item g l = Same (AllByRecursion (FormedMaybe (own_in l.scopes)) (map g.T.Valued.value l.items))
    (AllLeft (FormedMaybe (own_in l.scopes)) g.T.Valued.value l.items l.item-index)
