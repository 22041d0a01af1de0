use Rattle.std.proofs.Common.{arith}
use Rattle.smith_format.proofs.Sizes.{sum_next, sum_all, each_too_much, each_reaches, many_too_much, length_then}
use Rattle.smith_format.proofs.lists.many_len.Goals as goal

pub returns-in_err-spelled_len : goal.returns-in_err-spelled_len
returns-in_err-spelled_len g c =
    rw c.from_residual.ensures
    (many_too_much g.T.Spelled.piece _ (each_too_much _ _ _ _ c.loop-item-test.true c.item-item.is (c.in_err-spelled_len.ensures {u = tt})))

pub returns-in_err-total : goal.returns-in_err-total
returns-in_err-total g c =
    rw c.from_residual-in_err-total.ensures
    (many_too_much g.T.Spelled.piece _ (each_reaches _ _ _ _ _ _ c.loop-item-test.true c.item-item.is c.loop-item.invariant
    ((c.in_ok-spelled_len.ensures {u = tt}).0) (omega (arith, c.in_err-total.ensures {u = tt}))))

pub loop-item-preserved : goal.loop-item-preserved
loop-item-preserved g c = sum_next _ _ _ _ _ _ _ c.loop-item.invariant c.loop-item-test.true c.item-item.is ((c.in_ok-spelled_len.ensures {u = tt}).0)
    ((c.in_ok-total.ensures {u = tt}).1)

pub returns : goal.returns
returns g c =
    length_then c.checked_add-2.result c.checked_add-2.ensures ((c.in_ok-count_len.ensures {u = tt}).0)
    (sum_all _ _ _ _ c.loop-item.invariant c.loop-item-test.false)
