use Rattle.smith_format.proofs.Many.{put_next, loop_done, loop_exit}
use Rattle.smith_format.proofs.Steps.{gains_begins}
use Rattle.smith_core.proofs.Segments.{all_read, due_type, due_value, gains_global}
use Rattle.smith_core.proofs.module.encode.tables.put_globals.Goals as goal

pub returns-in_err-put : goal.returns-in_err-put
returns-in_err-put c =
    let w = c.in_err-put.ensures {u = tt} in
    let named = all_read _ _ _ _ c.requires c.loop-index-test.true c.loop-index-item.is in
    loop_exit _ _ _ _ _ _ c.from_residual-in_err-put.ensures.1 ((c.in_ok-write_count.ensures {u = tt}).written) _ c.loop-index.invariant c.loop-index-test.true
    c.loop-index-item.is (w.0, due_type _ _ _ named _ w.1)

pub returns-in_err-put-2 : goal.returns-in_err-put-2
returns-in_err-put-2 c =
    let g = c.in_ok-put.ensures {u = tt} in
    let w = c.in_err-put-2.ensures {u = tt} in
    let named = all_read _ _ _ _ c.requires c.loop-index-test.true c.loop-index-item.is in
    loop_exit _ _ _ _ _ _ c.from_residual-in_err-put-2.ensures.1 ((c.in_ok-write_count.ensures {u = tt}).written) _ c.loop-index.invariant
    c.loop-index-test.true c.loop-index-item.is (gains_begins g w.0, due_value _ _ _ named g w.1)

pub loop-index-preserved : goal.loop-index-preserved
loop-index-preserved c =
    let named = all_read _ _ _ _ c.requires c.loop-index-test.true c.loop-index-item.is in
    put_next _ _ _ _ _ _ _ c.loop-index.invariant c.loop-index-test.true c.loop-index-item.is
    (gains_global _ _ _ named (c.in_ok-put.ensures {u = tt}) (c.in_ok-put-2.ensures {u = tt}))

pub returns : goal.returns
returns c = loop_done _ _ _ ((c.in_ok-write_count.ensures {u = tt}).written) c.loop-index.invariant c.loop-index-test.false
