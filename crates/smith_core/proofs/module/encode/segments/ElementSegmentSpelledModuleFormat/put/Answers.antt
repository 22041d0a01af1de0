use Rattle.smith_format.proofs.Steps.{exits, ends, due_left}
use Rattle.smith_core.proofs.module.encode.segments.ElementSegmentSpelledModuleFormat.put.Goals as goal

pub returns-in_err-put_functions_front-in-Functions : goal.returns-in_err-put_functions_front-in-Functions
returns-in_err-put_functions_front-in-Functions c =
    let d = c.in_err-put_functions_front-in-Functions.ensures {u = tt} in
    rw c.in-Functions.is (exits _ _ c.from_residual.ensures.1 d.0 (due_left _ d.1))

pub returns-in_err-put_expressions_front-in-Expressions : goal.returns-in_err-put_expressions_front-in-Expressions
returns-in_err-put_expressions_front-in-Expressions c =
    let d = c.in_err-put_expressions_front-in-Expressions.ensures {u = tt} in
    rw c.in-Expressions.is
    (exits _ _ c.from_residual-in_err-put_expressions_front-in-Expressions.ensures.1 d.0 (due_left _ d.1))

pub returns-in_ok-put_functions_front-in-Functions : goal.returns-in_ok-put_functions_front-in-Functions
returns-in_ok-put_functions_front-in-Functions c =
    let listed = rw c.deref.ensures.value at c.put_many.ensures in
    rw c.in-Functions.is (ends c.put_many.result _ _ (c.in_ok-put_functions_front-in-Functions.ensures {u = tt}) listed)

pub returns-in_ok-put_expressions_front-in-Expressions : goal.returns-in_ok-put_expressions_front-in-Expressions
returns-in_ok-put_expressions_front-in-Expressions c =
    let listed = rw c.deref-in-Expressions.ensures.value at c.put_many-in-Expressions.ensures in
    rw c.in-Expressions.is
    (ends c.put_many-in-Expressions.result _ _ (c.in_ok-put_expressions_front-in-Expressions.ensures {u = tt}) listed)
