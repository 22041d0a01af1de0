use Rattle.std.proofs.Common.{arith}
use Rattle.smith_format.proofs.Sizes.{sum_next, sum_all, each_too_much, each_reaches, many_too_much, too_much_long, too_much_right, length_then}
use Rattle.smith_core.proofs.Segments.{all_read, takes_global, too_much_type}
use Rattle.smith_core.proofs.module.encode.tables.globals_len.Goals as goal

pub returns-in_err-ty : goal.returns-in_err-ty
returns-in_err-ty c =
    let named = all_read _ _ _ _ c.requires c.loop-index-test.true c.loop-index-item.is in
    rw c.from_residual.ensures
    (many_too_much _ _ (each_too_much _ _ _ _ c.loop-index-test.true c.loop-index-item.is (too_much_type _ _ _ named _ (c.in_err-ty.ensures {u = tt}))))

pub returns-in_err-spelled_len : goal.returns-in_err-spelled_len
returns-in_err-spelled_len c =
    rw c.from_residual-in_err-spelled_len.ensures
    (many_too_much _ _ (each_too_much _ _ _ _ c.loop-index-test.true c.loop-index-item.is (too_much_right _ (c.in_err-spelled_len.ensures {u = tt}))))

pub returns-in_err-checked_add : goal.returns-in_err-checked_add
returns-in_err-checked_add c =
    let named = all_read _ _ _ _ c.requires c.loop-index-test.true c.loop-index-item.is in
    let taken = takes_global _ _ _ named ((c.in_ok-ty.ensures {u = tt}).0) ((c.in_ok-spelled_len.ensures {u = tt}).0) in
    rw c.from_residual-in_err-checked_add.ensures
    (many_too_much _ _ (each_too_much _ _ _ _ c.loop-index-test.true c.loop-index-item.is
    (too_much_long taken (omega (arith, c.in_err-checked_add.ensures {u = tt})))))

pub returns-in_err-total : goal.returns-in_err-total
returns-in_err-total c =
    let named = all_read _ _ _ _ c.requires c.loop-index-test.true c.loop-index-item.is in
    let taken = takes_global _ _ _ named ((c.in_ok-ty.ensures {u = tt}).0) ((c.in_ok-spelled_len.ensures {u = tt}).0) in
    rw c.from_residual-in_err-total.ensures
    (many_too_much _ _ (each_reaches _ _ _ _ _ _ c.loop-index-test.true c.loop-index-item.is c.loop-index.invariant taken
    (omega (arith, c.in_err-total.ensures {u = tt}, (c.in_ok-checked_add.ensures {u = tt}).1))))

pub loop-index-preserved : goal.loop-index-preserved
loop-index-preserved c =
    let named = all_read _ _ _ _ c.requires c.loop-index-test.true c.loop-index-item.is in
    let taken = takes_global _ _ _ named ((c.in_ok-ty.ensures {u = tt}).0) ((c.in_ok-spelled_len.ensures {u = tt}).0) in
    sum_next _ _ _ _ _ _ _ c.loop-index.invariant c.loop-index-test.true c.loop-index-item.is taken
    (omega (arith, (c.in_ok-total.ensures {u = tt}).1, (c.in_ok-checked_add.ensures {u = tt}).1))

pub returns : goal.returns
returns c =
    length_then c.checked_add-2.result c.checked_add-2.ensures ((c.in_ok-count_len.ensures {u = tt}).0)
    (sum_all _ _ _ _ c.loop-index.invariant c.loop-index-test.false)
