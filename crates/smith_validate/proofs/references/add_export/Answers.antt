use Rattle.std.proofs.Common.{◌+◌, ap, sym, ◌∙◌, length, subst, arith}
use Rattle.smith_tree.specs.Bodies.{after_export, exported_facts, externs_at, reference_size}
use Rattle.smith_tree.specs.Counts.{ValidCounts, with_export, with_type_count}
use Rattle.smith_tree.specs.Facts.{sizes}
use Rattle.smith_tree.specs.Validates.{names_of}
use Rattle.smith_syntax.specs.Scope.{with_types}
use Rattle.smith_validate.specs.Bodies.{IsIn, IsRole}
use Rattle.smith_validate.specs.Counted.{counted}
use Rattle.smith_validate.specs.Exact.{IsRoleExported}
use Rattle.smith_validate.proofs.Judging.{judged_by, keeps_by, on_by, on_judged}
use Rattle.smith_validate.proofs.ExportSteps.{export_exactly}
use Rattle.smith_validate.proofs.references.add_export.Goals as goal
use Rattle.smith_tree.proofs.Named.{names_of_both as names_append}

pub returns-clause-judged : goal.returns-clause-judged
returns-clause-judged c = λ asks b outer names table s.
    let to = c.args.to in
    let fs = exported_facts b.own outer to in
    let named = (c.in_ok-name_export.ensures {u = tt}).named asks b outer names table s.scopes s.role_is in
    let n = reference_size b.own.core_types (sizes b.own.types) to in
    let size = c.size_of_reference.ensures b.own s.scopes.own_is in
    let bound = (c.in_ok-add_size.ensures {u = tt}).judged n size in
    let counts = ap counted (c.in_ok-add_size.ensures {u = tt}).counts
    ∙ ((c.in_ok-add_export.ensures {u = tt}).added ∙ ap (λ m. with_export m to) s.counts_are) in
    let valid = subst ValidCounts (sym counts)
    (subst ValidCounts (ap (λ m. with_export m to) s.counts_are)
    ((c.in_ok-add_export.ensures {u = tt}).judged (subst ValidCounts (sym s.counts_are) s.small.1))) in
    judged_by c.add_exported.result
    (λ p. (
      named.0,
      (omega (arith, bound, s.size_is), subst ValidCounts (ap (λ m. with_type_count m (length fs)) counts) p),
    ))
    (λ d q. keeps_by d.counts (λ k. subst ValidCounts (sym (ap (λ m. with_type_count m (length fs)) counts)) k) q.1.1)
    (c.add_exported.ensures.judged b.own outer (names_of b.exports) names table
    s.scopes valid)

pub returns-clause-added : goal.returns-clause-added
returns-clause-added c = λ asks b outer names table s.
    let to = c.args.to in
    let xs = externs_at b.own outer to in
    let fs = exported_facts b.own outer to in
    let named = (c.in_ok-name_export.ensures {u = tt}).named asks b outer names table s.scopes s.role_is in
    let n = reference_size b.own.core_types (sizes b.own.types) to in
    let size = c.size_of_reference.ensures b.own s.scopes.own_is in
    let grown = (c.in_ok-add_size.ensures {u = tt}).size n size in
    let bound = (c.in_ok-add_size.ensures {u = tt}).judged n size in
    let counts = ap counted (c.in_ok-add_size.ensures {u = tt}).counts
    ∙ ((c.in_ok-add_export.ensures {u = tt}).added ∙ ap (λ m. with_export m to) s.counts_are) in
    let valid = subst ValidCounts (sym counts)
    (subst ValidCounts (ap (λ m. with_export m to) s.counts_are)
    ((c.in_ok-add_export.ensures {u = tt}).judged (subst ValidCounts (sym s.counts_are) s.small.1))) in
    let here = names_of b.exports in
    on_judged c.add_exported.result _
    (λ k m j. record {
      scopes = subst (λ ids. IsIn c.add_exported.new.known (with_types b.own fs) outer ids names table) (sym (names_append b.exports xs)) k;
      size_is = grown ∙ ap (λ z. z + n) s.size_is;
      counts_are = m ∙ ap (λ z. with_type_count z (length fs)) counts;
      small = (omega (arith, bound, s.size_is), subst ValidCounts (ap (λ z. with_type_count z (length fs)) counts) j);
      role_is = subst (λ r. IsRole table names asks r (after_export outer b to)) (sym (c.in_ok-add_size.ensures {u = tt}).role) named.1;
    })
    (c.add_exported.ensures.added b.own outer here names table s.scopes) (c.add_exported.ensures.counts b.own outer here names table s.scopes)
    (c.add_exported.ensures.judged b.own outer here names table s.scopes valid)

pub returns-clause-exact : goal.returns-clause-exact
returns-clause-exact c = λ asks b outer named table h.
    let to = c.args.to in
    let role = (c.in_ok-name_export.ensures {u = tt}).exact asks b outer named table h in
    let same = (c.in_ok-add_size.ensures {u = tt}).role in
    let beside = c.add_exported.ensures.beside in
    on_by c.add_exported.result
    (λ types. export_exactly asks c.args.known.now c.args.body.now.role b outer named table h c.add_exported.new.known c.add_size.new.self.role to
    beside.outer beside.instances types
    (subst (λ r. IsRoleExported table outer named asks r b (externs_at b.own outer to)) (sym same) role))
    c.add_exported.ensures.types
