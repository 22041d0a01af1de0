use Rattle.std.proofs.Common.{◌∷◌, ◌++◌, [], ◌∙◌, ap, subst, sym, true, Ok}
use Rattle.smith_tree.specs.Counts.{ValidCounts, with_function}
use Rattle.smith_validate.specs.Exact.{IsBodyExactly}
use Rattle.smith_validate.specs.Parts.{IsOpen}
use Rattle.smith_validate.specs.Steps.{At}
use Rattle.smith_validate.proofs.Judging.{later_none, never_unnamed}
use Rattle.smith_validate.proofs.PartsExactly.{body_counted, exactly_counted, recounted, with_counts}
use Rattle.smith_validate.proofs.rows.add_canon_row.Goals as goal

pub returns-in_ok-push-in-CanonLift-clause-steps : goal.returns-in_ok-push-in-CanonLift-clause-steps
returns-in_ok-push-in-CanonLift-clause-steps c = λ k.
    let o = c.args.here.now.body in
    let done = c.in_ok-add_function.ensures {u = tt} in
    rw (c.in-CanonLift.is) (record {
      judged = λ at outer names table h.
          let counts = subst ValidCounts (sym h.body.counts_are) h.body.small.1 in
          ((h.body.small.0, subst ValidCounts (ap with_function h.body.counts_are) (done.judged counts)), tt);
      added = λ at outer names table h.
          let valid = subst ValidCounts (ap with_function h.body.counts_are) (done.judged (subst ValidCounts (sym h.body.counts_are) h.body.small.1)) in
          later_none (IsOpen k (record { functions = c.push.new.self; body = record o { counts = c.add_function.new.self } })) _ outer names
          table (record {
            body = body_counted k o at.1 outer names table h.body c.add_function.new.self with_function done.added valid;
            functions_are = (c.in_ok-push-in-CanonLift.ensures {u = tt}).items ∙ ap (λ fs. fs ++ c.in-CanonLift.func_ty ∷ []) h.functions_are;
          });
    })

pub returns-in-CanonLower-clause-steps : goal.returns-in-CanonLower-clause-steps
returns-in-CanonLower-clause-steps c = λ k.
    let o = c.args.here.now.body in
    let done = c.in_ok-add_function.ensures {u = tt} in
    rw (c.in-CanonLower.is) (record {
      judged = λ at outer names table h.
          let counts = subst ValidCounts (sym h.body.counts_are) h.body.small.1 in
          ((h.body.small.0, subst ValidCounts (ap with_function h.body.counts_are) (done.judged counts)), tt);
      added = λ at outer names table h.
          let valid = subst ValidCounts (ap with_function h.body.counts_are) (done.judged (subst ValidCounts (sym h.body.counts_are) h.body.small.1)) in
          later_none (IsOpen k (record c.args.here.now { body = record o { counts = c.add_function.new.self } })) _ outer names table (record {
            body = body_counted k o at.1 outer names table h.body c.add_function.new.self with_function done.added valid;
            functions_are = h.functions_are;
          });
    })

pub returns-in_ok-push-in-CanonLift-clause-exactly : goal.returns-in_ok-push-in-CanonLift-clause-exactly
returns-in_ok-push-in-CanonLift-clause-exactly c = λ k.
    never_unnamed (Ok tt) _ tt (λ at outer named table h.
    later_none (λ (s : At). IsBodyExactly true k (with_counts c.args.here.now.body c.add_function.new.self) s.1)
    (at.0, recounted at.1 (with_function at.1.counts)) outer named table
    (exactly_counted k c.args.here.now.body at.1 outer named table c.add_function.new.self (with_function at.1.counts) h.exact))

pub returns-in-CanonLower-clause-exactly : goal.returns-in-CanonLower-clause-exactly
returns-in-CanonLower-clause-exactly c = λ k.
    never_unnamed (Ok tt) _ tt (λ at outer named table h.
    later_none (λ (s : At). IsBodyExactly true k (with_counts c.args.here.now.body c.add_function.new.self) s.1)
    (at.0, recounted at.1 (with_function at.1.counts)) outer named table
    (exactly_counted k c.args.here.now.body at.1 outer named table c.add_function.new.self (with_function at.1.counts) h.exact))
