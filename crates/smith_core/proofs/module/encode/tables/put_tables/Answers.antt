use Rattle.smith_format.proofs.Many.{put_next, loop_done, loop_exit}
use Rattle.smith_format.proofs.Steps.{exits, due_left, keeps_begins}
use Rattle.smith_core.proofs.Segments.{pair_at, pairs_long}
use Rattle.smith_core.proofs.module.encode.tables.put_tables.Goals as goal

pub returns-in_err-write_count : goal.returns-in_err-write_count
returns-in_err-write_count c =
    let d = (c.in_err-write_count.ensures {u = tt}).written in
    rw (pairs_long _ _ c.requires) (exits _ _ c.from_residual.ensures.1 (keeps_begins d.0) (due_left _ d.1))

pub returns-in_err-put_table : goal.returns-in_err-put_table
returns-in_err-put_table c =
    let count = rw (← pairs_long _ _ c.requires) at ((c.in_ok-write_count.ensures {u = tt}).written) in
    loop_exit _ _ _ _ _ _ c.from_residual-in_err-put_table.ensures.1 count _ c.loop-at.invariant (rw (pairs_long _ _ c.requires) c.loop-at-test.true)
    (pair_at _ _ _ _ _ c.requires c.loop-at-test.true c.index-initials-at.is) (c.in_err-put_table.ensures {u = tt})

pub loop-at-preserved : goal.loop-at-preserved
loop-at-preserved c =
    put_next _ _ _ _ _ _ _ c.loop-at.invariant (rw (pairs_long _ _ c.requires) c.loop-at-test.true)
    (pair_at _ _ _ _ _ c.requires c.loop-at-test.true c.index-initials-at.is) (c.in_ok-put_table.ensures {u = tt})

pub returns : goal.returns
returns c =
    let count = rw (← pairs_long _ _ c.requires) at ((c.in_ok-write_count.ensures {u = tt}).written) in
    loop_done _ _ _ count c.loop-at.invariant (rw (pairs_long _ _ c.requires) c.loop-at-test.false)
