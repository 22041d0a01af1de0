use Rattle.smith_format.proofs.Many.{put_next, loop_done, loop_exit}
use Rattle.smith_format.proofs.lists.put_many.Goals as goal

pub returns-in_err-put : goal.returns-in_err-put
returns-in_err-put g c =
    loop_exit _ _ _ _ _ _ c.from_residual-in_err-put.ensures.1 ((c.in_ok-write_count.ensures {u = tt}).written) _ c.loop-item.invariant c.loop-item-test.true
    c.item-item.is (c.in_err-put.ensures {u = tt})

pub loop-item-preserved : goal.loop-item-preserved
loop-item-preserved g c = put_next _ _ _ _ _ _ _ c.loop-item.invariant c.loop-item-test.true c.item-item.is (c.in_ok-put.ensures {u = tt})

pub returns : goal.returns
returns g c = loop_done _ _ _ ((c.in_ok-write_count.ensures {u = tt}).written) c.loop-item.invariant c.loop-item-test.false
