use Rattle.smith_scopes.specs.NodeScopes.{own_in}
use Rattle.smith_check.proofs.Grading.{grades_judged}
use Rattle.smith_check.proofs.Judging.{judged_by}
use Rattle.smith_check.proofs.TypeSteps.{all_some}
use Rattle.smith_check.proofs.values.check_tuple.Goals as goal

pub returns-clause-judged : goal.returns-clause-judged
returns-clause-judged c =
    let s = all_some (own_in c.args.scopes.now) c.args.items.now in
    let few = (c.in_ok-check_count.ensures {u = tt}).judged in
    judged_by c.check_values.result (λ p. (s.to p, few.0, few.1)) (λ q. s.from q.0) c.check_values.ensures

pub returns-clause-graded : goal.returns-clause-graded
returns-clause-graded c =
    let s = all_some (own_in c.args.scopes.now) c.args.items.now in
    grades_judged c.check_values.result (λ q. s.from q.0) c.check_values.ensures
