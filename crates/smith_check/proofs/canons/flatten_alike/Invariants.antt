use Rattle.std.proofs.Math.ListN.{drop}
use Rattle.smith_syntax.specs.Flat.{Flat}
use Rattle.smith_check.proofs.FlatSteps.{FlatParams, FlatResults}
use Rattle.smith_check.proofs.Judging.{Same}
use Rattle.smith_check.proofs.canons.flatten_alike.Given as goal

abbrev pub invariant-loop-index : goal.invariant-loop-index
invariant-loop-index l = Same (Flat l.first l.second)
    (FlatParams (drop l.index l.first-inside.params.items) (drop l.index l.second-inside.params.items)
    × FlatResults l.first-inside.result l.second-inside.result)
