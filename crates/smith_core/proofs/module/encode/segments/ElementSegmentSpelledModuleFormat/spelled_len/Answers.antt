use Rattle.smith_format.proofs.Sizes.{too_much_right, length_then}
use Rattle.smith_core.proofs.module.encode.segments.ElementSegmentSpelledModuleFormat.spelled_len.Goals as goal

pub returns-in_err-many_len-in-Functions : goal.returns-in_err-many_len-in-Functions
returns-in_err-many_len-in-Functions c =
    let long = rw c.deref.ensures.value at (c.in_err-many_len-in-Functions.ensures {u = tt}) in
    rw (c.from_residual-in_err-many_len-in-Functions.ensures, c.in-Functions.is) (too_much_right _ long)

pub returns-in_ok-many_len-in-Functions : goal.returns-in_ok-many_len-in-Functions
returns-in_ok-many_len-in-Functions c =
    let listed = rw c.deref.ensures.value at ((c.in_ok-many_len-in-Functions.ensures {u = tt}).0) in
    rw c.in-Functions.is (length_then c.checked_add.result c.checked_add.ensures ((c.in_ok-functions_front_len-in-Functions.ensures {u = tt}).0) listed)

pub returns-in_err-many_len-in-Expressions : goal.returns-in_err-many_len-in-Expressions
returns-in_err-many_len-in-Expressions c =
    let long = rw c.deref-in-Expressions.ensures.value at (c.in_err-many_len-in-Expressions.ensures {u = tt}) in
    rw (c.from_residual-in_err-many_len-in-Expressions.ensures, c.in-Expressions.is) (too_much_right _ long)

pub returns-in_ok-many_len-in-Expressions : goal.returns-in_ok-many_len-in-Expressions
returns-in_ok-many_len-in-Expressions c =
    let listed = rw c.deref-in-Expressions.ensures.value at ((c.in_ok-many_len-in-Expressions.ensures {u = tt}).0) in
    rw c.in-Expressions.is (length_then c.checked_add-in-Expressions.result c.checked_add-in-Expressions.ensures
    ((c.in_ok-expressions_front_len-in-Expressions.ensures {u = tt}).0) listed)
