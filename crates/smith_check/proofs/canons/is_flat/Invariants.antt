use Rattle.std.proofs.Common.{◌≡◌}
use Rattle.std.proofs.Math.ListN.{drop}
use Rattle.std.specs.List.{list_all}
use Rattle.std.specs.Option.{is_some}
use Rattle.smith_syntax.specs.Flat.{flat_value}
use Rattle.smith_tree.specs.Possible.{values_of}
use Rattle.smith_check.proofs.ValueSteps.{values_in}
use Rattle.smith_check.proofs.canons.is_flat.Given as goal

abbrev pub invariant-loop-param : goal.invariant-loop-param
invariant-loop-param l = list_all (λ v. is_some (flat_value v)) (values_of l.ty)
    ≡ list_all (λ v. is_some (flat_value v)) (values_in (drop l.param-index l.ty-inside.params.items) l.ty-inside.result)
