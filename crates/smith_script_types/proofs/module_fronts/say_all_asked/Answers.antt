use Rattle.smith_script_types.proofs.Saying.{gives_up, towards_exit, towards_step}
use Rattle.smith_script_types.proofs.ModuleTurns.{asked_at}
use Rattle.smith_script_types.proofs.module_fronts.say_all_asked.Goals as goal

pub returns-in_err-say_asked : goal.returns-in_err-say_asked
returns-in_err-say_asked c =
    gives_up _ _ _ _ c.from_residual.ensures.1
    (towards_exit _ _ c.loop-decl.invariant (asked_at _ _ _ c.loop-decl-test.true c.decl-item.is) (c.in_err-say_asked.ensures {u = tt}))

pub loop-decl-preserved : goal.loop-decl-preserved
loop-decl-preserved c =
    towards_step _ _ c.loop-decl.invariant (asked_at _ _ _ c.loop-decl-test.true c.decl-item.is) (c.in_ok-say_asked.ensures {u = tt})
