use Rattle.smith_check.proofs.FlatSteps.{flat_same}
use Rattle.smith_check.proofs.canons.flatten_alike.Goals as goal

pub loop-index-init : goal.loop-index-init
loop-index-init c = rw (← c.first.view_is, ← c.second.view_is)
    (flat_same c.first.inside.params.items c.second.inside.params.items c.first.inside.result c.second.inside.result)
