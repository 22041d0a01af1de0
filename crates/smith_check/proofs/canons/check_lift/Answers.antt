use Rattle.smith_scopes.specs.NodeScopes.{own_in}
use Rattle.smith_check.specs.Preceding.{spaces_in}
use Rattle.smith_check.proofs.Grading.{grades_by}
use Rattle.smith_check.proofs.ValueSteps.{lift_asks}
use Rattle.smith_check.proofs.canons.check_lift.Goals as goal

pub returns-clause-graded : goal.returns-clause-graded
returns-clause-graded c =
    grades_by c.check_flat.result
    (lift_asks (spaces_in (own_in c.args.scopes.now) c.args.here.now) c.args.core_func c.args.ty
    c.in_ok-func.func c.in_ok-lifted.lifted.now c.in_ok-lowered.lowered.now
    (c.in_ok-lifted.ensures {u = tt}) (c.in_ok-func.ensures {u = tt}) (c.in_ok-lowered.ensures {u = tt}))
    c.check_flat.ensures.graded
