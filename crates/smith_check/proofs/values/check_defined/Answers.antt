use Rattle.smith_scopes.specs.NodeScopes.{own_in}
use Rattle.smith_check.proofs.Grading.{grades_by}
use Rattle.smith_check.proofs.Judging.{judged_by}
use Rattle.smith_check.proofs.TypeSteps.{record_formed, record_possible, variant_formed, variant_possible}
use Rattle.smith_check.proofs.values.check_defined.Goals as goal

pub returns-in-Record-clause-judged : goal.returns-in-Record-clause-judged
returns-in-Record-clause-judged c =
    let s = record_formed (own_in c.args.scopes.now) c.in-Record.ty.fields.items in
    rw c.in-Record.is (judged_by c.check_members.result (λ p. s.to p) (λ q. s.from q) (rw c.deref.ensures.value at c.check_members.ensures.judged))

pub returns-in-Variant-clause-judged : goal.returns-in-Variant-clause-judged
returns-in-Variant-clause-judged c =
    let s = variant_formed (own_in c.args.scopes.now) c.in-Variant.ty.cases.items in
    rw c.in-Variant.is
    (judged_by c.check_members-in-Variant.result (λ p. s.to p) (λ q. s.from q)
    (rw c.deref-in-Variant.ensures.value at c.check_members-in-Variant.ensures.judged))

pub returns-in-Record-clause-graded : goal.returns-in-Record-clause-graded
returns-in-Record-clause-graded c =
    rw c.in-Record.is (grades_by c.check_members.result (record_possible (own_in c.args.scopes.now) c.in-Record.ty.fields.items)
    (rw c.deref.ensures.value at c.check_members.ensures.graded))

pub returns-in-Variant-clause-graded : goal.returns-in-Variant-clause-graded
returns-in-Variant-clause-graded c =
    rw c.in-Variant.is (grades_by c.check_members-in-Variant.result (variant_possible (own_in c.args.scopes.now) c.in-Variant.ty.cases.items)
    (rw c.deref-in-Variant.ensures.value at c.check_members-in-Variant.ensures.graded))
