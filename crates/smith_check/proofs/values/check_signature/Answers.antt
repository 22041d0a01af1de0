use Rattle.std.proofs.Common.{arith}
use Rattle.smith_scopes.specs.NodeScopes.{outer_in, own_in}
use Rattle.smith_check.proofs.Grading.{breaks_by, breaks_refuted, grades_judged, grades_passed}
use Rattle.smith_check.proofs.Judging.{passed_on, judged_by, refute_by}
use Rattle.smith_check.proofs.TypeSteps.{signature_formed, signature_possible}
use Rattle.smith_check.proofs.values.check_signature.Goals as goal

pub returns-in_err-check_names-clause-judged : goal.returns-in_err-check_names-clause-judged
returns-in_err-check_names-clause-judged c =
    let s = signature_formed (own_in c.args.scopes.now) (outer_in c.args.scopes.now) c.ty.inside.params.items c.ty.inside.result in
    rw (← c.ty.view_is)
    (passed_on _ _ c.from_residual.ensures.1 (refute_by (λ q. (s.from q).0) (rw c.deref.ensures.value at (c.in_err-check_names.ensures {u = tt}).judged)))

pub returns-in_err-check_values-clause-judged : goal.returns-in_err-check_values-clause-judged
returns-in_err-check_values-clause-judged c =
    let s = signature_formed (own_in c.args.scopes.now) (outer_in c.args.scopes.now) c.ty.inside.params.items c.ty.inside.result in
    rw (← c.ty.view_is)
    (passed_on _ _ c.from_residual-in_err-check_values.ensures.1
    (refute_by (λ q. (s.from q).1) (rw c.deref-2.ensures.value at (c.in_err-check_values.ensures {u = tt}))))

pub returns-clause-judged : goal.returns-clause-judged
returns-clause-judged c =
    let s = signature_formed (own_in c.args.scopes.now) (outer_in c.args.scopes.now) c.ty.inside.params.items c.ty.inside.result in
    let n = rw c.deref.ensures.value at (c.in_ok-check_names.ensures {u = tt}).judged in
    let v = rw c.deref-2.ensures.value at (c.in_ok-check_values.ensures {u = tt}) in
    rw (← c.ty.view_is)
    (judged_by c.check_maybe.result (λ p. s.to (n, v, omega (arith, c.len.ensures, c.if-len-gt16.false), p)) (λ q. (s.from q).3) c.check_maybe.ensures)

pub returns-in_err-check_names-clause-graded : goal.returns-in_err-check_names-clause-graded
returns-in_err-check_names-clause-graded c =
    rw (← c.ty.view_is)
    (grades_passed _ _ c.from_residual.ensures.1
    (breaks_by (λ q. (signature_possible (own_in c.args.scopes.now) (outer_in c.args.scopes.now) c.ty.inside.params.items c.ty.inside.result q).0)
    (rw c.deref.ensures.value at (c.in_err-check_names.ensures {u = tt}).graded)))

pub returns-in_err-check_values-clause-graded : goal.returns-in_err-check_values-clause-graded
returns-in_err-check_values-clause-graded c =
    rw (← c.ty.view_is)
    (grades_passed _ _ c.from_residual-in_err-check_values.ensures.1
    (breaks_refuted (λ q. (signature_possible (own_in c.args.scopes.now) (outer_in c.args.scopes.now) c.ty.inside.params.items c.ty.inside.result q).1)
    (rw c.deref-2.ensures.value at (c.in_err-check_values.ensures {u = tt}))))

pub returns-clause-graded : goal.returns-clause-graded
returns-clause-graded c =
    rw (← c.ty.view_is)
    (grades_judged c.check_maybe.result
    (λ q. (signature_possible (own_in c.args.scopes.now) (outer_in c.args.scopes.now) c.ty.inside.params.items c.ty.inside.result q).2)
    c.check_maybe.ensures)
