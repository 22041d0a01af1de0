use Rattle.std.proofs.Common.{arith}
use Rattle.smith_format.proofs.Sizes.{sum_next, sum_all, each_too_much, each_reaches, many_too_much, length_then}
use Rattle.smith_core.proofs.Tiles.{member_is}
use Rattle.smith_core.proofs.module.encode.types.groups_len.Goals as goal

pub returns-in_err-rec_type_len : goal.returns-in_err-rec_type_len
returns-in_err-rec_type_len c =
    let h = c.loop-start-test.true in
    let is = member_is _ _ (0, 0) h in
    rw c.from_residual.ensures
    (many_too_much _ _ (each_too_much _ _ _ _ h is (c.in_err-rec_type_len.ensures {u = tt})))

pub returns-in_err-total : goal.returns-in_err-total
returns-in_err-total c =
    let h = c.loop-start-test.true in
    let is = member_is _ _ (0, 0) h in
    let t = (c.in_ok-rec_type_len.ensures {u = tt}).0 in
    let long = c.in_err-total.ensures {u = tt} in
    rw c.from_residual-in_err-total.ensures
    (many_too_much _ _ (each_reaches _ _ _ _ _ _ h is c.loop-start.invariant t (omega (arith, long))))

pub loop-start-preserved : goal.loop-start-preserved
loop-start-preserved c =
    let h = c.loop-start-test.true in
    let is = member_is _ _ (0, 0) h in
    let t = (c.in_ok-rec_type_len.ensures {u = tt}).0 in
    sum_next _ _ _ _ _ _ _ c.loop-start.invariant h is t ((c.in_ok-total.ensures {u = tt}).1)

pub returns : goal.returns
returns c =
    let n = (c.in_ok-count_len.ensures {u = tt}).0 in
    let all = sum_all _ _ _ _ c.loop-start.invariant c.loop-start-test.false in
    length_then c.checked_add-2.result c.checked_add-2.ensures n all
