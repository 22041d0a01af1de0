use Rattle.smith_format.proofs.Many.{put_next, loop_done, loop_exit}
use Rattle.smith_core.proofs.Tiles.{member_is}
use Rattle.smith_core.proofs.module.encode.types.put_groups.Goals as goal

pub returns-in_err-put_rec_type : goal.returns-in_err-put_rec_type
returns-in_err-put_rec_type c =
    let n = (c.in_ok-write_count.ensures {u = tt}).written in
    let h = c.loop-start-test.true in
    let is = member_is _ _ (0, 0) h in
    let d = c.in_err-put_rec_type.ensures {u = tt} in
    loop_exit _ _ _ _ _ _ c.from_residual-in_err-put_rec_type.ensures.1 n _ c.loop-start.invariant h is d

pub loop-start-preserved : goal.loop-start-preserved
loop-start-preserved c =
    let h = c.loop-start-test.true in
    let is = member_is _ _ (0, 0) h in
    put_next _ _ _ _ _ _ _ c.loop-start.invariant h is (c.in_ok-put_rec_type.ensures {u = tt})

pub returns : goal.returns
returns c =
    loop_done _ _ _ ((c.in_ok-write_count.ensures {u = tt}).written) c.loop-start.invariant c.loop-start-test.false
