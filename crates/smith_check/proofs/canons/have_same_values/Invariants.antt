use Rattle.std.proofs.Math.ListN.{drop}
use Rattle.smith_tree.specs.Possible.{SameFlat}
use Rattle.smith_check.proofs.Judging.{Same}
use Rattle.smith_check.proofs.ValueSteps.{SameParams, SameResults}
use Rattle.smith_check.proofs.canons.have_same_values.Given as goal

abbrev pub invariant-loop-index : goal.invariant-loop-index
invariant-loop-index l = Same (SameFlat l.first l.second)
    (SameParams (drop l.index l.first-inside.params.items) (drop l.index l.second-inside.params.items)
    × SameResults l.first-inside.result l.second-inside.result)
