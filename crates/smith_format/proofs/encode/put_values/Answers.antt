use Rattle.std.proofs.lemmas.List.{get_or_default}
use Rattle.smith_format.proofs.Many.{put_next, loop_done, loop_exit}
use Rattle.smith_format.proofs.encode.put_values.Goals as goal

pub returns-in_err-put_core_val : goal.returns-in_err-put_core_val
returns-in_err-put_core_val c =
    loop_exit _ _ _ _ _ _ c.from_residual-in_err-put_core_val.ensures.1 ((c.in_ok-write_count.ensures {u = tt}).written) _ c.loop-ty.invariant
    c.loop-ty-test.true (get_or_default _ _ _ _ c.loop-ty-test.true) (c.in_err-put_core_val.ensures {u = tt})

pub loop-ty-preserved : goal.loop-ty-preserved
loop-ty-preserved c =
    put_next _ _ _ _ _ _ _ c.loop-ty.invariant c.loop-ty-test.true (get_or_default _ _ _ _ c.loop-ty-test.true)
    (c.in_ok-put_core_val.ensures {u = tt})

pub returns : goal.returns
returns c = loop_done _ _ _ ((c.in_ok-write_count.ensures {u = tt}).written) c.loop-ty.invariant c.loop-ty-test.false
