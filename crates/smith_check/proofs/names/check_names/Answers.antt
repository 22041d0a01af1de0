use Rattle.std.proofs.Common.{false}
use Rattle.smith_syntax.specs.Possible.{PossibleName}
use Rattle.smith_check.proofs.Grading.{breaks_by, grades_passed}
use Rattle.smith_check.proofs.Judging.{passed_on, refute_by}
use Rattle.smith_check.proofs.TypeSteps.{named_upto, upto}
use Rattle.smith_check.proofs.names.check_names.Goals as goal

pub returns-in_err-add-clause-judged : goal.returns-in_err-add-clause-judged
returns-in_err-add-clause-judged g c =
    passed_on _ _ c.from_residual.ensures.1
    (refute_by (named_upto g.T.Labelled.text c.args.items.now c.loop-item.item-index c.item-item.result c.loop-item-test.true c.item-item.is)
    (rw c.label.ensures at ((c.in_err-add.ensures {u = tt}).judged _ c.loop-item.invariant)))

pub returns-in_err-add-clause-graded : goal.returns-in_err-add-clause-graded
returns-in_err-add-clause-graded g c =
    grades_passed _ _ c.from_residual.ensures.1
    (breaks_by
    (upto g.T.Labelled.text c.args.items.now c.loop-item.item-index (PossibleName false) c.item-item.result c.loop-item-test.true c.item-item.is)
    (rw c.label.ensures at ((c.in_err-add.ensures {u = tt}).graded _ c.loop-item.invariant)))
