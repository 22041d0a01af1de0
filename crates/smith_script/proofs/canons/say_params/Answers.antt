use Rattle.smith_script_types.proofs.Saying.{gives_up, towards_exit, unsaid_left, unsaid_right}
use Rattle.smith_script.proofs.Turns.{params_at}
use Rattle.smith_script.proofs.canons.say_params.Goals as goal

pub returns-in_err-say_name : goal.returns-in_err-say_name
returns-in_err-say_name c =
    gives_up _ _ _ _ c.from_residual.ensures.1
    (towards_exit _ _ c.loop-done.invariant (params_at c.args.config.now _ _ _ _ c.loop-done-test.true c.index-params-done.is)
    (unsaid_left _ (rw c.deref.ensures at (c.in_err-say_name.ensures {u = tt}))))

pub returns-in_err-say_scalar : goal.returns-in_err-say_scalar
returns-in_err-say_scalar c =
    gives_up _ _ _ _ c.from_residual-in_err-say_scalar.ensures.1
    (towards_exit _ _ c.loop-done.invariant (params_at c.args.config.now _ _ _ _ c.loop-done-test.true c.index-params-done.is)
    (unsaid_right _ (c.in_err-say_scalar.ensures {u = tt})))
