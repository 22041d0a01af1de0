use Rattle.std.proofs.Common.{ap}
use Rattle.std.specs.List.{list_any}
use Rattle.smith_scopes.specs.NodeScopes.{own_in}
use Rattle.smith_tree.specs.Possible.{needs_memory}
use Rattle.smith_check.proofs.ValueSteps.{values_named}
use Rattle.smith_check.proofs.canons.needs_memory.Goals as goal

pub loop-param-init : goal.loop-param-init
loop-param-init c =
    rw (← c.ty.view_is) (ap (list_any (needs_memory (own_in c.args.scopes.now).types)) (values_named c.ty.inside.params.items c.ty.inside.result))
