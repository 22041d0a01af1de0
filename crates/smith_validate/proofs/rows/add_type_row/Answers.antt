use Rattle.std.proofs.Common.{◌++◌, ◌∷◌, [], true}
use Rattle.smith_read.specs.TypeNodes.{shown_type_node}
use Rattle.smith_tree.specs.Bodies.{facts, with_facts}
use Rattle.smith_tree.specs.Facts.{id_at}
use Rattle.smith_tree.specs.Validates.{names_of}
use Rattle.smith_validate.proofs.Declaring.{body_declared_exactly}
use Rattle.smith_validate.proofs.Judging.{err_by, judged_by, on_by, refute_by, steps_err}
use Rattle.smith_validate.proofs.PartsExactly.{now_after}
use Rattle.smith_validate.proofs.TypeSteps.{body_declared}
use Rattle.smith_validate.proofs.rows.add_type_row.Goals as goal

pub returns-in_err-facts-clause-steps : goal.returns-in_err-facts-clause-steps
returns-in_err-facts-clause-steps c =
    steps_err _ _ c.from_residual.ensures.1 (λ at outer names table h.
    refute_by (λ d q. q.0) ((c.in_err-facts.ensures {u = tt}).judged at.1.own outer (names_of at.1.exports) names table h.body.scopes))

pub returns-clause-steps : goal.returns-clause-steps
returns-clause-steps c =
    let done = c.in_ok-facts.ensures {u = tt} in
    let added = c.add_type.ensures in
    let t = shown_type_node c.args.ty.now in
    record {
      judged = λ at outer names table h.
          let here = names_of at.1.exports in
          let kept = done.kept at.1.own outer here names table h.body.scopes in
          judged_by c.add_type.result (λ p. (done.judged at.1.own outer here names table h.body.scopes, p, tt)) (λ d q. q.1)
          (added.judged true at.1 outer names (table ++ kept.more)
          (body_declared true c.args.known.now _ c.args.here.now.body at.1 outer names table kept.more h.body done.scopes.own done.scopes.outer
          kept.instances_are) (facts t at.1.own outer));
      added = λ at outer names table h.
          let here = names_of at.1.exports in
          let kept = done.kept at.1.own outer here names table h.body.scopes in
          on_by c.add_type.result
          (λ k. (kept.more, record { body = k; functions_are = h.functions_are }))
          (added.added true at.1 outer names (table ++ kept.more)
          (body_declared true c.args.known.now _ c.args.here.now.body at.1 outer names table kept.more h.body done.scopes.own done.scopes.outer
          kept.instances_are) (facts t at.1.own outer)
          (done.size at.1.own outer here names table h.body.scopes) kept.is);
    }

pub returns-clause-exactly : goal.returns-clause-exactly
returns-clause-exactly c =
    let new = c.add_type.new in
    let added = c.add_type.ensures in
    record {
      exact = λ at outer named table h usual.
          let b = at.1 in
          let done = c.in_ok-facts.ensures {u = tt} in
          let f = facts (shown_type_node c.args.ty.now) b.own outer in
          let d = done.exact b.own outer (names_of b.exports ++ named) table h.exact.known h.exact.depth_is usual.0 in
          on_by c.add_type.result
          (λ types. now_after true new.known new.body (with_facts b (f ∷ [])) outer named (id_at (b.own ∷ outer)) table
          (body_declared_exactly true c.args.known.now c.args.here.now.body b outer named table h.exact _ new.known new.body _ f d done.scopes.own
          done.scopes.outer types added.leaves.beside.outer added.leaves.beside.instances added.leaves.role))
          added.types;
      refused = λ at outer named table h usual. err_by c.add_type.result (λ e u n. absurd (u n)) added.bound;
    }
