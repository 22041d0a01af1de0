use Rattle.smith_check.proofs.ValueSteps.{values_same}
use Rattle.smith_check.proofs.canons.have_same_values.Goals as goal

pub loop-index-init : goal.loop-index-init
loop-index-init c = rw (← c.first.view_is, ← c.second.view_is)
    (values_same c.first.inside.params.items c.second.inside.params.items c.first.inside.result c.second.inside.result)
