use Rattle.smith_script_types.proofs.Saying.{gives_up, towards_exit, unsaid_right}
use Rattle.smith_script.proofs.Turns.{rows_at}
use Rattle.smith_script.proofs.rows.say_rows.Goals as goal

pub returns-in_err-say-clause-said : goal.returns-in_err-say-clause-said
returns-in_err-say-clause-said g c =
    gives_up _ _ _ _ c.from_residual-in_err-say.ensures.1
    (towards_exit _ _ c.loop-row.invariant.said (rows_at _ _ _ _ _ _ _ _ _ c.loop-row-test.true c.row-item.is)
    (unsaid_right _ (rw c.loop-row.invariant.outer at c.in_err-say.ensures.said)))
