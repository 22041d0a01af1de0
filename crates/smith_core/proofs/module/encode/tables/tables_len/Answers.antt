use Rattle.std.proofs.Common.{arith}
use Rattle.smith_format.proofs.Sizes.{sum_next, sum_all, each_too_much, each_reaches, many_too_much, too_much_left, length_then}
use Rattle.smith_core.proofs.Segments.{pair_at, pairs_long}
use Rattle.smith_core.specs.Segments.{table}
use Rattle.smith_core.proofs.module.encode.tables.tables_len.Goals as goal

pub returns-in_err-table_len : goal.returns-in_err-table_len
returns-in_err-table_len c =
    let pair = pair_at _ _ _ _ _ c.requires c.loop-at-test.true c.index-initials-at.is in
    rw c.from_residual.ensures
    (many_too_much table _ (each_too_much _ _ _ _ (rw (pairs_long _ _ c.requires) c.loop-at-test.true) pair (c.in_err-table_len.ensures {u = tt})))

pub returns-in_err-total : goal.returns-in_err-total
returns-in_err-total c =
    let pair = pair_at _ _ _ _ _ c.requires c.loop-at-test.true c.index-initials-at.is in
    rw c.from_residual-in_err-total.ensures
    (many_too_much table _ (each_reaches _ _ _ _ _ _ (rw (pairs_long _ _ c.requires) c.loop-at-test.true) pair c.loop-at.invariant
    ((c.in_ok-table_len.ensures {u = tt}).0) (omega (arith, c.in_err-total.ensures {u = tt}))))

pub loop-at-preserved : goal.loop-at-preserved
loop-at-preserved c =
    let pair = pair_at _ _ _ _ _ c.requires c.loop-at-test.true c.index-initials-at.is in
    sum_next _ _ _ _ _ _ _ c.loop-at.invariant (rw (pairs_long _ _ c.requires) c.loop-at-test.true) pair ((c.in_ok-table_len.ensures {u = tt}).0)
    ((c.in_ok-total.ensures {u = tt}).1)

pub returns-in_err-count_len : goal.returns-in_err-count_len
returns-in_err-count_len c =
    rw (c.from_residual-in_err-count_len.ensures, pairs_long _ _ c.requires) (too_much_left _ (c.in_err-count_len.ensures {u = tt}))

pub returns : goal.returns
returns c =
    let count = rw (← pairs_long _ _ c.requires) at ((c.in_ok-count_len.ensures {u = tt}).0) in
    length_then c.checked_add-2.result c.checked_add-2.ensures count (sum_all _ _ _ _ c.loop-at.invariant (rw (pairs_long _ _ c.requires) c.loop-at-test.false))
