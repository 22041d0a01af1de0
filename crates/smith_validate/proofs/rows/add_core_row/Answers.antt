use Rattle.std.proofs.Common.{◌∷◌, [], refl, true}
use Rattle.smith_read.specs.Nodes.{shown_core_node}
use Rattle.smith_tree.specs.Bodies.{core_facts, with_core_facts}
use Rattle.smith_tree.specs.Facts.{id_at}
use Rattle.smith_validate.specs.Parts.{IsOpen}
use Rattle.smith_validate.proofs.BodySteps.{body_as}
use Rattle.smith_validate.proofs.Judging.{judged_by, later_none, never_unnamed, on_by}
use Rattle.smith_validate.proofs.PartsExactly.{now_after}
use Rattle.smith_validate.proofs.rows.add_core_row.Goals as goal

pub returns-clause-steps : goal.returns-clause-steps
returns-clause-steps c =
    let done = c.in_ok-facts.ensures {u = tt} in
    let added = c.add_core_type.ensures in
    let t = shown_core_node c.args.ty.now in
    record {
      judged = λ at outer names table h.
          judged_by c.add_core_type.result (λ p. (done.judged at.1.own h.body.scopes.own_is, p, tt)) (λ d q. q.1)
          (added.judged true at.1 outer names table h.body (core_facts t at.1.own));
      added = λ at outer names table h.
          on_by c.add_core_type.result
          (λ k. later_none (IsOpen c.add_core_type.new.known (record c.args.here.now { body = c.add_core_type.new.body })) _ outer names table
          (record { body = k; functions_are = h.functions_are }))
          (added.added true at.1 outer names table h.body (core_facts t at.1.own) (done.kept at.1.own h.body.scopes.own_is));
    }

pub returns-clause-exactly : goal.returns-clause-exactly
returns-clause-exactly c =
    let new = c.add_core_type.new in
    let added = c.add_core_type.ensures in
    never_unnamed c.add_core_type.result _ added.bound (λ at outer named table h.
    let b = at.1 in
    let then = with_core_facts b (core_facts (shown_core_node c.args.ty.now) b.own ∷ []) in
    on_by c.add_core_type.result
    (λ types. now_after true new.known new.body then outer named (id_at (b.own ∷ outer)) table
    (body_as true c.args.known.now c.args.here.now.body b outer named table h.exact new.known new.body added.leaves.beside.outer added.leaves.role
    then types added.leaves.beside.instances refl refl refl))
    added.types)
