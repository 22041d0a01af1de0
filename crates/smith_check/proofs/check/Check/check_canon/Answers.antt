use Rattle.std.proofs.Common.{subst, sym}
use Rattle.smith_tree.specs.Possible.{PossibleCanon}
use Rattle.smith_scopes.specs.NodeScopes.{own_in}
use Rattle.smith_tree.specs.Shown.{shown_canon}
use Rattle.smith_check.proofs.Grading.{breaks_by, grades_passed}
use Rattle.smith_check.proofs.Judging.{on_by}
use Rattle.smith_check.proofs.Stepping.{canon_added, spaces_known}
use Rattle.smith_check.proofs.check.Check.check_canon.Goals as goal

pub returns-clause-passed : goal.returns-clause-passed
returns-clause-passed c = λ at k.
    let names = c.add_canon.ensures.names in
    on_by c.add_canon.result (λ spaces. canon_added c.args.self.now at k c.add_canon.new.self (shown_canon c.args.canon.now) names.0 names.1 spaces)
    (c.add_canon.ensures.added (own_in c.args.self.now.scopes))

pub returns-in_err-check_canon-clause-graded : goal.returns-in_err-check_canon-clause-graded
returns-in_err-check_canon-clause-graded c = λ at k.
    let known = spaces_known c.args.self.now at k c.args.self.now.opens.own in
    grades_passed _ _ c.from_residual.ensures.1
    (breaks_by (λ p. subst (λ s. PossibleCanon s (shown_canon c.args.canon.now)) (sym known) p.0) (c.in_err-check_canon.ensures {u = tt}).graded)
