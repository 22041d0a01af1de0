use Rattle.std.proofs.Common.{ap}
use Rattle.std.specs.List.{list_all}
use Rattle.std.specs.Option.{is_some}
use Rattle.smith_syntax.specs.Flat.{flat_value}
use Rattle.smith_check.proofs.ValueSteps.{values_named}
use Rattle.smith_check.proofs.canons.is_flat.Goals as goal

pub loop-param-init : goal.loop-param-init
loop-param-init c = rw (← c.ty.view_is) (ap (list_all (λ v. is_some (flat_value v))) (values_named c.ty.inside.params.items c.ty.inside.result))
