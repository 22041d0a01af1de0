use Rattle.std.proofs.Common.{◌+◌, ap, sym, ◌∙◌, subst, arith}
use Rattle.smith_tree.specs.Bodies.{after_import, reference_size}
use Rattle.smith_tree.specs.Counts.{ValidCounts, with_import}
use Rattle.smith_tree.specs.Facts.{sizes}
use Rattle.smith_validate.specs.Bodies.{IsRole}
use Rattle.smith_validate.specs.Counted.{counted}
use Rattle.smith_validate.specs.Exact.{IsRoleExactly}
use Rattle.smith_validate.proofs.Judging.{judged_by, keeps_by, on_any, on_judged}
use Rattle.smith_validate.proofs.ExportSteps.{import_exactly}
use Rattle.smith_validate.proofs.references.add_import.Goals as goal

pub returns-clause-judged : goal.returns-clause-judged
returns-clause-judged c = λ asks b outer names table s.
    let to = c.args.to in
    let named = (c.in_ok-name_import.ensures {u = tt}).named asks b outer names table s.scopes s.role_is in
    let n = reference_size b.own.core_types (sizes b.own.types) to in
    let valid = subst ValidCounts (ap (λ m. with_import m to) s.counts_are)
    ((c.in_ok-add_import.ensures {u = tt}).judged (subst ValidCounts (sym s.counts_are) s.small.1)) in
    judged_by c.add_size.result
    (λ p. (named.0, (omega (arith, p, s.size_is), valid)))
    (λ d q. keeps_by d.sizes (λ k. omega (arith, k, s.size_is)) q.1.0)
    (c.add_size.ensures.judged n (c.size_of_reference.ensures b.own s.scopes.own_is))

pub returns-clause-added : goal.returns-clause-added
returns-clause-added c = λ asks b outer names table s.
    let to = c.args.to in
    let named = (c.in_ok-name_import.ensures {u = tt}).named asks b outer names table s.scopes s.role_is in
    let n = reference_size b.own.core_types (sizes b.own.types) to in
    let size = c.size_of_reference.ensures b.own s.scopes.own_is in
    let counts = (c.in_ok-add_import.ensures {u = tt}).added ∙ ap (λ m. with_import m to) s.counts_are in
    let valid = subst ValidCounts (ap (λ m. with_import m to) s.counts_are)
    ((c.in_ok-add_import.ensures {u = tt}).judged (subst ValidCounts (sym s.counts_are) s.small.1)) in
    on_judged c.add_size.result _
    (λ grown same j. record {
      scopes = s.scopes;
      size_is = grown ∙ ap (λ m. m + n) s.size_is;
      counts_are = ap counted c.add_size.ensures.counts ∙ counts;
      small = (omega (arith, j, s.size_is), valid);
      role_is = subst (λ r. IsRole table names asks r (after_import outer b to)) (sym c.add_size.ensures.role) named.1;
    })
    (c.add_size.ensures.size n size) (c.add_size.ensures.size n size) (c.add_size.ensures.judged n size)

pub returns-clause-exact : goal.returns-clause-exact
returns-clause-exact c = λ asks b outer named table h usual.
    let to = c.args.to in
    let role = (c.in_ok-name_import.ensures {u = tt}).exact asks b outer named table h usual in
    on_any c.add_size.result
    (import_exactly asks c.args.known.now c.args.body.now.role b outer named table h c.add_size.new.self.role to usual.1
    (subst (λ r. IsRoleExactly table outer named asks r (after_import outer b to)) (sym c.add_size.ensures.role) role))
