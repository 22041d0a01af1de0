use Rattle.std.proofs.Common.{arith, ◌∷◌, ◌++◌, [], ap, refl, sym, subst, ◌∙◌, true, false, map, length}
use Rattle.std.proofs.lemmas.List.{take_all}
use Rattle.std.specs.Option.{option_to_list}
use Rattle.std.specs.Prelude.{string_bytes}
use Rattle.smith_syntax.specs.Entries.{in_order}
use Rattle.smith_read.specs.Nodes.{shown_core_node}
use Rattle.smith_read.specs.TypeNodes.{shown_decl_node, shown_type_node}
use Rattle.smith_read.proofs.ShownNodes.{shown_alias, shown_component, shown_core, shown_core_alias, shown_declared, shown_export, shown_function}
use Rattle.smith_read.proofs.ShownNodes.{shown_import, shown_instance, shown_values}
use Rattle.smith_tree.specs.Bodies.{Body, after_decl, after_decls, core_facts, empty_body, facts, named_in, with_core_facts, with_facts}
use Rattle.smith_syntax.specs.Shown.{shown_defined}
use Rattle.smith_tree.specs.Facts.{FactScope, Facts, id_at, members}
use Rattle.smith_tree.specs.Demands.{everything}
use Rattle.smith_tree.specs.Validates.{names_of}
use Rattle.smith_syntax.specs.Entries.{component_type, defined, instance_type}
use Rattle.smith_validate.specs.Exact.{IsBodyExactlyNow, IsJudgedExactly, IsKeptExactly}
use Rattle.smith_validate.specs.Tables.{names_in}
use Rattle.std.specs.List.{AllZip}
use Rattle.smith_validate.specs.Bodies.{IsBody, IsFresh}
use Rattle.smith_validate.specs.Instances.{AreKept}
use Rattle.smith_validate.specs.Kept.{kept_core, named_at, types_in}
use Rattle.smith_syntax.specs.Sizes.{capped}
use Rattle.smith_validate.specs.Nested.{IsJudged}
use Rattle.smith_validate.specs.Outcome.{asking}
use Rattle.smith_validate.specs.Steps.{Later}
use Rattle.smith_validate.specs.declared.error.Demand.TheVariants.{Named as Demanded}
use Rattle.smith_validate.specs.declared.known.Known.{Known}
use Rattle.smith_validate.proofs.DeclSteps.{decls_all, decls_are, decls_before, decls_row, empty_is, in_entered, judged_is, last_same, named_kept}
use Rattle.smith_validate.proofs.DeclSteps.{scopes_kept}
use Rattle.smith_validate.proofs.Declaring.{body_alias, body_declared_exactly, declared_component, declared_values, exactly_begin, exactly_judged}
use Rattle.smith_validate.proofs.Declaring.{exactly_now, exactly_then}
use Rattle.smith_validate.proofs.RowSteps.{before_next, usual_at, valid_at, valid_next}
use Rattle.smith_validate.proofs.Judging.{export_judged, judged_by, later_more, later_none, ok_by, on_by, passed_on, refused_on, refute_by}
use Rattle.smith_validate.proofs.BodySteps.{body_as}
use Rattle.smith_validate.proofs.TypeSteps.{alias_kept, body_declared, declared_more, declared_now}
use Rattle.smith_validate.proofs.Valued.{plain_kept}
use Rattle.smith_validate.proofs.Zips.{zip_within}
use Rattle.smith_validate.proofs.types.+types.Goals as goal

pub add_decl-returns-in_err-facts-in-Type-clause-judged : goal.add_decl-returns-in_err-facts-in-Type-clause-judged
add_decl-returns-in_err-facts-in-Type-clause-judged t c = λ asks b outer names table s.
    rw (c.in-Type.is, shown_declared c.in-Type.ty)
    (passed_on _ _ c.from_residual-in_err-facts-in-Type.ensures.1
    (refute_by (λ d q. q.0) ((c.in_err-facts-in-Type.ensures {u = tt}).judged b.own outer (names_of b.exports) names table s.scopes)))

pub add_decl-returns-in_ok-facts-in-Core-clause-judged : goal.add_decl-returns-in_ok-facts-in-Core-clause-judged
add_decl-returns-in_ok-facts-in-Core-clause-judged t c = λ asks b outer names table s.
    let done = c.in_ok-facts-in-Core.ensures {u = tt} in
    rw (c.in-Core.is, shown_core c.in-Core.ty)
    (judged_by c.add_core_type.result (λ p. (done.judged b.own s.scopes.own_is, p)) (λ d q. q.1)
    (c.add_core_type.ensures.judged asks b outer names table s (core_facts (shown_core_node c.in-Core.ty) b.own)))

pub add_decl-returns-in_ok-facts-in-Core-clause-added : goal.add_decl-returns-in_ok-facts-in-Core-clause-added
add_decl-returns-in_ok-facts-in-Core-clause-added t c = λ asks b outer names table s.
    let done = c.in_ok-facts-in-Core.ensures {u = tt} in
    let f = core_facts (shown_core_node c.in-Core.ty) b.own in
    rw (c.in-Core.is, shown_core c.in-Core.ty)
    (on_by c.add_core_type.result
    (λ k. later_none (IsBody asks c.add_core_type.new.known c.add_core_type.new.body) (with_core_facts b (f ∷ [])) outer names table k)
    (c.add_core_type.ensures.added asks b outer names table s f (done.kept b.own s.scopes.own_is)))

pub add_decl-returns-in_ok-facts-in-Type-clause-judged : goal.add_decl-returns-in_ok-facts-in-Type-clause-judged
add_decl-returns-in_ok-facts-in-Type-clause-judged t c = λ asks b outer names table s.
    let done = c.in_ok-facts-in-Type.ensures {u = tt} in
    let here = names_of b.exports in
    let kept = done.kept b.own outer here names table s.scopes in
    rw (c.in-Type.is, shown_declared c.in-Type.ty)
    (judged_by c.add_type.result (λ p. (done.judged b.own outer here names table s.scopes, p)) (λ d q. q.1)
    (c.add_type.ensures.judged asks b outer names (table ++ kept.more)
    (body_declared asks c.args.known.now _ c.args.body.now b outer names table kept.more s done.scopes.own done.scopes.outer kept.instances_are)
    (facts (shown_type_node c.in-Type.ty) b.own outer)))

pub add_decl-returns-in_ok-facts-in-Type-clause-added : goal.add_decl-returns-in_ok-facts-in-Type-clause-added
add_decl-returns-in_ok-facts-in-Type-clause-added t c = λ asks b outer names table s.
    let done = c.in_ok-facts-in-Type.ensures {u = tt} in
    let here = names_of b.exports in
    let kept = done.kept b.own outer here names table s.scopes in
    let f = facts (shown_type_node c.in-Type.ty) b.own outer in
    rw (c.in-Type.is, shown_declared c.in-Type.ty)
    (on_by c.add_type.result
    (λ k. (kept.more, k))
    (c.add_type.ensures.added asks b outer names (table ++ kept.more)
    (body_declared asks c.args.known.now _ c.args.body.now b outer names table kept.more s done.scopes.own done.scopes.outer kept.instances_are)
    f (done.size b.own outer here names table s.scopes) kept.is))

pub add_decl-returns-in-TypeAlias-clause-judged : goal.add_decl-returns-in-TypeAlias-clause-judged
add_decl-returns-in-TypeAlias-clause-judged t c = λ asks b outer names table s.
    let count = c.in-TypeAlias.count in
    let i = c.in-TypeAlias.index in
    let found = c.type_named-facts.ensures.size
    ∙ (ap (λ os. named_at (λ o. o.types) os count i) (scopes_kept _ b.own outer (names_of b.exports) names table s.scopes)
    ∙ named_kept (λ (f : Facts). capped f.size)
    (λ o. o.types) (λ o. o.types) (λ o. refl) count i
    (b.own ∷ outer)) in
    rw (c.in-TypeAlias.is, shown_alias count i)
    (judged_by c.add_named.result (λ p. (tt, p)) (λ d q. q.1) (c.add_named.ensures.judged asks b outer names table s _ found))

pub add_decl-returns-in-TypeAlias-clause-added : goal.add_decl-returns-in-TypeAlias-clause-added
add_decl-returns-in-TypeAlias-clause-added t c = λ asks b outer names table s.
    let count = c.in-TypeAlias.count in
    let i = c.in-TypeAlias.index in
    let here = names_of b.exports in
    let f = named_in (λ o. o.types) (b.own ∷ outer) count i in
    let found = c.type_named-facts.ensures.size
    ∙ (ap (λ os. named_at (λ o. o.types) os count i) (scopes_kept _ b.own outer here names table s.scopes)
    ∙ named_kept (λ (f : Facts). capped f.size) (λ o. o.types)
    (λ o. o.types) (λ o. refl) count i (b.own ∷ outer)) in
    let kept : AreKept table (here ∷ names) (option_to_list c.type_named-facts.result) (option_to_list f) =
    subst (λ o. AreKept table (here ∷ names) (option_to_list o) (option_to_list f)) (sym c.type_named-facts.ensures.facts)
    (alias_kept table (here ∷ names) (types_in c.args.known.now) (b.own ∷ outer) count i s.scopes.types_are) in
    rw (c.in-TypeAlias.is, shown_alias count i)
    (on_by c.add_named.result
    (λ k. later_none (IsBody asks c.add_named.new.known c.add_named.new.body) (with_facts b (option_to_list f)) outer names table k)
    (c.add_named.ensures.added asks b outer names table s f found kept))

pub add_decl-returns-in-CoreTypeAlias-clause-judged : goal.add_decl-returns-in-CoreTypeAlias-clause-judged
add_decl-returns-in-CoreTypeAlias-clause-judged t c = λ asks b outer names table s.
    let count = c.in-CoreTypeAlias.count in
    let i = c.in-CoreTypeAlias.index in
    let found = c.core_type_named-facts.ensures
    ∙ (ap (λ os. named_at (λ o. o.core_types) os count i) (scopes_kept _ b.own outer (names_of b.exports) names table s.scopes)
    ∙ named_kept kept_core (λ o. o.core_types) (λ o. o.core_types) (λ o. refl) count i (b.own ∷ outer)) in
    rw (c.in-CoreTypeAlias.is, shown_core_alias count i)
    (judged_by c.add_core_named.result (λ p. (tt, p)) (λ d q. q.1) (c.add_core_named.ensures.judged asks b outer names table s _ found))

pub add_decl-returns-in-CoreTypeAlias-clause-added : goal.add_decl-returns-in-CoreTypeAlias-clause-added
add_decl-returns-in-CoreTypeAlias-clause-added t c = λ asks b outer names table s.
    let count = c.in-CoreTypeAlias.count in
    let i = c.in-CoreTypeAlias.index in
    let f = named_in (λ o. o.core_types) (b.own ∷ outer) count i in
    let found = c.core_type_named-facts.ensures
    ∙ (ap (λ os. named_at (λ o. o.core_types) os count i) (scopes_kept _ b.own outer (names_of b.exports) names table s.scopes)
    ∙ named_kept kept_core (λ o. o.core_types) (λ o. o.core_types) (λ o. refl) count i (b.own ∷ outer)) in
    rw (c.in-CoreTypeAlias.is, shown_core_alias count i)
    (on_by c.add_core_named.result
    (λ k. later_none (IsBody asks c.add_core_named.new.known c.add_core_named.new.body) (with_core_facts b (option_to_list f)) outer names table k)
    (c.add_core_named.ensures.added asks b outer names table s f found))

pub add_decl-returns-in-Import-clause-judged : goal.add_decl-returns-in-Import-clause-judged
add_decl-returns-in-Import-clause-judged t c = λ asks b outer names table s.
    rw (c.in-Import.is, shown_import c.in-Import.name c.in-Import.to) (c.add_import.ensures.judged asks b outer names table s)

pub add_decl-returns-in-Import-clause-added : goal.add_decl-returns-in-Import-clause-added
add_decl-returns-in-Import-clause-added t c = λ asks b outer names table s.
    rw (c.in-Import.is, shown_import c.in-Import.name c.in-Import.to)
    (on_by c.add_import.result (λ k. later_none (IsBody asks c.args.known.now c.add_import.new.body) _ outer names table k)
    (c.add_import.ensures.added asks b outer names table s))

pub add_decl-returns-in-Export-clause-judged : goal.add_decl-returns-in-Export-clause-judged
add_decl-returns-in-Export-clause-judged t c = λ asks b outer names table s.
    rw (c.in-Export.is, shown_export c.in-Export.name c.in-Export.to)
    (export_judged c.add_export.result asks (string_bytes c.in-Export.name) c.in-Export.to outer b (c.add_export.ensures.judged asks b outer names table s))

pub add_decl-returns-in-Export-clause-added : goal.add_decl-returns-in-Export-clause-added
add_decl-returns-in-Export-clause-added t c = λ asks b outer names table s.
    rw (c.in-Export.is, shown_export c.in-Export.name c.in-Export.to)
    (on_by c.add_export.result (λ k. later_none (IsBody asks c.add_export.new.known c.add_export.new.body) _ outer names table k)
    (c.add_export.ensures.added asks b outer names table s))

pub add_decls-loop-decl-init : goal.add_decls-loop-decl-init
add_decls-loop-decl-init t c =
    let k = c.args.known.now in
    let o = c.args.body.now in
    let entered = c.in_ok-enter.ensures {u = tt} in
    record {
      outer = entered.outer;
      judged = λ asks own outer here names table s e f. (
        tt,
        later_none (IsBody asks c.enter.new.self o) empty_body (own ∷ outer) (here ∷ names) table
            (empty_is asks c.enter.new.self o (own ∷ outer) (here ∷ names) table
            (in_entered k c.enter.new.self own outer here names table s entered.own entered.types entered.outer entered.instances) e f),
      );
      exact = λ asks own outer named table h d f u.
          exactly_begin asks own outer named table k c.enter.new.self o h d f entered.types entered.outer entered.instances;
    }

pub add_decls-loop-decl-preserved : goal.add_decls-loop-decl-preserved
add_decls-loop-decl-preserved t c =
    let l = c.loop-decl in
    let ds = c.args.decls.now in
    let x = c.decl-item.result in
    let new = c.add_decl.new in
    let done = c.in_ok-add_decl.ensures {u = tt} in
    record {
      outer = done.outer ∙ l.invariant.outer;
      judged = λ asks own outer here names table s e f.
          let (v, m) = l.invariant.judged asks own outer here names table s e f in
          let r = decls_row asks (own ∷ outer) in
          let is = decls_are asks (own ∷ outer) in
          let b = decls_before asks (own ∷ outer) ds l.decl-index in
          let j = done.judged asks b (own ∷ outer) (here ∷ names) (table ++ m.0) m.1 in
          let V : Body → Type 0 = λ c. Later (IsBody asks new.known new.body) c (own ∷ outer) (here ∷ names) table in (
            (valid_next r is shown_decl_node ds empty_body l.decl-index x c.loop-decl-test.true c.decl-item.is everything).1 (v, j),
            subst V (before_next r is shown_decl_node ds empty_body l.decl-index x c.loop-decl-test.true c.decl-item.is)
                (later_more (IsBody asks new.known new.body) (after_decl (shown_decl_node x) (own ∷ outer) b) (own ∷ outer) (here ∷ names) table m.0
                (done.added asks b (own ∷ outer) (here ∷ names) (table ++ m.0) m.1)),
          );
      exact = λ asks own outer named table h d f u.
          let n = l.invariant.exact asks own outer named table h d f u in
          let r = decls_row asks (own ∷ outer) in
          let is = decls_are asks (own ∷ outer) in
          let b = decls_before asks (own ∷ outer) ds l.decl-index in
          subst (λ c. IsBodyExactlyNow asks new.known new.body c (own ∷ outer) named (id_at (own ∷ outer)) table)
          (before_next r is shown_decl_node ds empty_body l.decl-index x c.loop-decl-test.true c.decl-item.is)
          (exactly_then asks l.known new.known l.body new.body b (after_decl (shown_decl_node x) (own ∷ outer) b) (own ∷ outer) named table n
          (done.exact asks b (own ∷ outer) named n.new n.is
          (usual_at r is shown_decl_node ds empty_body l.decl-index x c.loop-decl-test.true c.decl-item.is u)));
    }

pub add_decls-returns-in_err-add_decl-clause-judged : goal.add_decls-returns-in_err-add_decl-clause-judged
add_decls-returns-in_err-add_decl-clause-judged t c = λ asks own outer here names table s e f.
    let l = c.loop-decl in
    let ds = c.args.decls.now in
    let m = (l.invariant.judged asks own outer here names table s e f).1 in
    passed_on _ _ c.from_residual-in_err-add_decl.ensures.1
    (refute_by
    (λ d. valid_at (decls_row asks (own ∷ outer)) (decls_are asks (own ∷ outer)) shown_decl_node ds empty_body l.decl-index c.decl-item.result
    c.loop-decl-test.true c.decl-item.is d)
    ((c.in_err-add_decl.ensures {u = tt}).judged asks (decls_before asks (own ∷ outer) ds l.decl-index) (own ∷ outer) (here ∷ names) (table ++ m.0) m.1))

pub add_decls-returns-clause-judged : goal.add_decls-returns-clause-judged
add_decls-returns-clause-judged t c = grind (arith, take_all)

pub add_decls-returns-clause-added : goal.add_decls-returns-clause-added
add_decls-returns-clause-added t c = λ asks own outer here names table s e f.
    let l = c.loop-decl in
    let new : Known = record { scopes = c.leave.new.self; instances = l.known.instances } in
    subst (λ b. IsJudged asks new l.body b (here ∷ names) table)
    (decls_all asks (own ∷ outer) c.args.decls.now l.decl-index c.loop-decl-test.false)
    (judged_is asks l.known new l.body _ (own ∷ outer) (here ∷ names) table (l.invariant.judged asks own outer here names table s e f).1 refl)

pub add_decls-returns-clause-scopes : goal.add_decls-returns-clause-scopes
add_decls-returns-clause-scopes t c = grind (arith, last_same)

pub type_facts-returns-in_err-add_decls-in-Component-clause-judged : goal.type_facts-returns-in_err-add_decls-in-Component-clause-judged
type_facts-returns-in_err-add_decls-in-Component-clause-judged t c = λ own outer here names table s.
    let fresh = subst (λ r. IsFresh true r) (sym c.new-body.ensures.role) c.new.ensures in
    rw (c.in-Component.is, shown_component c.in-Component.decls)
    (passed_on _ _ c.from_residual.ensures.1
    (rw c.deref.ensures.value at
    ((c.in_err-add_decls-in-Component.ensures {u = tt}).judged true own outer here names table s c.new-body.ensures.empty fresh)))

pub type_facts-returns-in-Defined-clause-kept : goal.type_facts-returns-in-Defined-clause-kept
type_facts-returns-in-Defined-clause-kept t c = λ own outer here names table s.
    rw (c.in-Defined.is, shown_values c.in-Defined.ty)
    (ok_by c.defined_facts.result (λ g k. declared_now table (here ∷ names) _ g _ s.instances_are k)
    (c.defined_facts.ensures.kept (id_at (own ∷ outer)) own.types (here ∷ names) table s.types_are.0))

pub type_facts-returns-in-Func-clause-kept : goal.type_facts-returns-in-Func-clause-kept
type_facts-returns-in-Func-clause-kept t c = λ own outer here names table s.
    rw (c.in-Func.is, shown_function c.in-Func.ty)
    (ok_by c.function_facts.result (λ g k. declared_now table (here ∷ names) _ g _ s.instances_are k)
    (c.function_facts.ensures.kept (id_at (own ∷ outer)) own.types (here ∷ names) table s.types_are.0))

pub type_facts-returns-in_ok-add_decls-in-Component-clause-judged : goal.type_facts-returns-in_ok-add_decls-in-Component-clause-judged
type_facts-returns-in_ok-add_decls-in-Component-clause-judged t c = grind (arith, shown_component)

pub type_facts-returns-in_ok-add_decls-in-Component-clause-size : goal.type_facts-returns-in_ok-add_decls-in-Component-clause-size
type_facts-returns-in_ok-add_decls-in-Component-clause-size t c = λ own outer here names table s.
    let fresh = subst (λ r. IsFresh true r) (sym c.new-body.ensures.role) c.new.ensures in
    rw (c.in-Component.is, shown_component c.in-Component.decls)
    (ap (λ g. g.size) c.new-in-Component.ensures
    ∙ (rw c.deref.ensures.value at
    ((c.in_ok-add_decls-in-Component.ensures {u = tt}).added true own outer here names table s c.new-body.ensures.empty fresh)).size_is)

pub type_facts-returns-in_ok-add_decls-in-Component-clause-kept : goal.type_facts-returns-in_ok-add_decls-in-Component-clause-kept
type_facts-returns-in_ok-add_decls-in-Component-clause-kept t c = λ own outer here names table s.
    let fresh = subst (λ r. IsFresh true r) (sym c.new-body.ensures.role) c.new.ensures in
    let j = rw c.deref.ensures.value at
    ((c.in_ok-add_decls-in-Component.ensures {u = tt}).added true own outer here names table s c.new-body.ensures.empty fresh) in
    let ds = in_order (map shown_decl_node c.in-Component.decls.items) in
    rw (c.in-Component.is, shown_component c.in-Component.decls, c.new-in-Component.ensures)
    (record {
      more = j.more;
      instances_are = j.instances_are;
      is = plain_kept (table ++ j.more) (here ∷ names) c.nothing.result _ (facts (component_type ds) own outer) refl tt refl;
    })

pub type_facts-returns-in_ok-add_decls-in-Instance-clause-size : goal.type_facts-returns-in_ok-add_decls-in-Instance-clause-size
type_facts-returns-in_ok-add_decls-in-Instance-clause-size t c = λ own outer here names table s.
    let fresh = subst (λ r. IsFresh false r) (sym c.new-body-in-Instance.ensures.role) c.new-in-Instance.ensures in
    let j = rw c.deref-in-Instance.ensures.value at
    ((c.in_ok-add_decls-in-Instance.ensures {u = tt}).added false own outer here names table s c.new-body-in-Instance.ensures.empty fresh) in
    rw (c.in-Instance.is, shown_instance c.in-Instance.decls)
    (ok_by c.instance_type.result (λ g e. e ∙ j.size_is) c.instance_type.ensures.size)

pub type_facts-returns-in_ok-add_decls-in-Instance-clause-kept : goal.type_facts-returns-in_ok-add_decls-in-Instance-clause-kept
type_facts-returns-in_ok-add_decls-in-Instance-clause-kept t c = λ own outer here names table s.
    let fresh = subst (λ r. IsFresh false r) (sym c.new-body-in-Instance.ensures.role) c.new-in-Instance.ensures in
    let done = c.in_ok-add_decls-in-Instance.ensures {u = tt} in
    let j = rw c.deref-in-Instance.ensures.value at (done.added false own outer here names table s c.new-body-in-Instance.ensures.empty fresh) in
    let ds = in_order (map shown_decl_node c.in-Instance.decls.items) in
    rw (c.in-Instance.is, shown_instance c.in-Instance.decls)
    (ok_by c.instance_type.result (λ g k. declared_more table (here ∷ names) c.instance_type.new.known g (facts (instance_type ds) own outer) j.more k)
    (c.instance_type.ensures.kept (id_at (own ∷ outer)) (after_decls ds (own ∷ outer) empty_body) here names (table ++ j.more) j.instances_are
    (s.depth_is ∙ ap length (sym done.scopes.outer)) j.role_is))

pub add_decls-returns-in_err-add_decl-clause-refused : goal.add_decls-returns-in_err-add_decl-clause-refused
add_decls-returns-in_err-add_decl-clause-refused t c = λ asks own outer named table h d f u.
    let l = c.loop-decl in
    let ds = c.args.decls.now in
    let x = c.decl-item.result in
    let n = l.invariant.exact asks own outer named table h d f u in
    let r = decls_row asks (own ∷ outer) in
    let is = decls_are asks (own ∷ outer) in
    refused_on _ _ c.from_residual-in_err-add_decl.ensures.1
    (λ e q. (c.in_err-add_decl.ensures {u = tt}).refused asks (decls_before asks (own ∷ outer) ds l.decl-index) (own ∷ outer) named n.new n.is
    (usual_at r is shown_decl_node ds empty_body l.decl-index x c.loop-decl-test.true c.decl-item.is u) e
    (valid_at r is shown_decl_node ds empty_body l.decl-index x c.loop-decl-test.true c.decl-item.is (asking Demanded) q).0)

pub add_decls-returns-clause-exact : goal.add_decls-returns-clause-exact
add_decls-returns-clause-exact t c = λ asks own outer named table h d f u.
    let l = c.loop-decl in
    let new : Known = record { scopes = c.leave.new.self; instances = l.known.instances } in
    subst (λ b. IsJudgedExactly asks new l.body b (own ∷ outer) named table)
    (decls_all asks (own ∷ outer) c.args.decls.now l.decl-index c.loop-decl-test.false)
    (exactly_judged asks l.known new l.body _ (own ∷ outer) named table (l.invariant.exact asks own outer named table h d f u) refl)

pub add_decl-returns-in_ok-facts-in-Core-clause-exact : goal.add_decl-returns-in_ok-facts-in-Core-clause-exact
add_decl-returns-in_ok-facts-in-Core-clause-exact t c = grind (arith, shown_core, on_by, body_as)

pub add_decl-returns-in_ok-facts-in-Type-clause-exact : goal.add_decl-returns-in_ok-facts-in-Type-clause-exact
add_decl-returns-in_ok-facts-in-Type-clause-exact t c = λ asks b outer named table h usual.
    let done = c.in_ok-facts-in-Type.ensures {u = tt} in
    let f = facts (shown_type_node c.in-Type.ty) b.own outer in
    rw (c.in-Type.is, shown_declared c.in-Type.ty)
    (let d = done.exact b.own outer (names_of b.exports ++ named) table h.known h.depth_is (rw (c.in-Type.is, shown_declared c.in-Type.ty) at usual) in
    on_by c.add_type.result
    (λ types. body_declared_exactly asks c.args.known.now c.args.body.now b outer named table h _ c.add_type.new.known c.add_type.new.body _ f d done.scopes.own
    done.scopes.outer types c.add_type.ensures.leaves.beside.outer c.add_type.ensures.leaves.beside.instances c.add_type.ensures.leaves.role)
    c.add_type.ensures.types)

pub add_decl-returns-in-TypeAlias-clause-exact : goal.add_decl-returns-in-TypeAlias-clause-exact
add_decl-returns-in-TypeAlias-clause-exact t c = λ asks b outer named table h usual.
    let count = c.in-TypeAlias.count in
    let i = c.in-TypeAlias.index in
    let k = c.args.known.now in
    let f = named_in (λ o. o.types) (b.own ∷ outer) count i in
    let R = IsKeptExactly table (id_at (b.own ∷ outer)) ((names_of b.exports ++ named) ++ names_in table) in
    let zip : AllZip R (option_to_list c.type_named-facts.result) (option_to_list f) =
    subst (λ o. AllZip R (option_to_list o) (option_to_list f)) (sym c.type_named-facts.ensures.facts)
    (zip_within R (λ ks. ks) (λ (s : FactScope). s.types) (types_in k) (b.own ∷ outer) count i h.known.types_are) in
    rw (c.in-TypeAlias.is, shown_alias count i)
    (on_by c.add_named.result
    (λ types. body_alias asks k c.args.body.now b outer named table h c.add_named.new.known c.add_named.new.body c.add_named.ensures.leaves.beside.outer
    c.add_named.ensures.leaves.beside.instances c.add_named.ensures.leaves.role c.type_named-facts.result f zip types)
    c.add_named.ensures.types)

pub add_decl-returns-in-CoreTypeAlias-clause-exact : goal.add_decl-returns-in-CoreTypeAlias-clause-exact
add_decl-returns-in-CoreTypeAlias-clause-exact t c = grind (arith, shown_core_alias, on_by, body_as)

pub add_decl-returns-in-Import-clause-exact : goal.add_decl-returns-in-Import-clause-exact
add_decl-returns-in-Import-clause-exact t c = grind (arith, shown_import, on_by, exactly_now)

pub add_decl-returns-in-Export-clause-exact : goal.add_decl-returns-in-Export-clause-exact
add_decl-returns-in-Export-clause-exact t c = grind (arith, shown_export, on_by, exactly_now)

pub type_facts-returns-in-Defined-clause-exact : goal.type_facts-returns-in-Defined-clause-exact
type_facts-returns-in-Defined-clause-exact t c = λ own outer named table h d usual.
    let u = rw (c.in-Defined.is, shown_values c.in-Defined.ty) at usual in
    let f = facts (defined (shown_defined c.in-Defined.ty)) own outer in
    rw (c.in-Defined.is, shown_values c.in-Defined.ty)
    (ok_by c.defined_facts.result
    (λ g m. declared_values c.args.known.now own outer named table h g f (members (shown_defined c.in-Defined.ty)) u m refl refl refl)
    c.defined_facts.ensures.marks)

pub type_facts-returns-in-Func-clause-exact : goal.type_facts-returns-in-Func-clause-exact
type_facts-returns-in-Func-clause-exact t c = grind (arith, shown_function, ok_by, declared_values)

pub type_facts-returns-in_ok-add_decls-in-Component-clause-exact : goal.type_facts-returns-in_ok-add_decls-in-Component-clause-exact
type_facts-returns-in_ok-add_decls-in-Component-clause-exact t c = λ own outer named table h d usual.
    let u = rw (c.in-Component.is, shown_component c.in-Component.decls) at usual in
    let fresh = subst (λ r. IsFresh true r) (sym c.new-body.ensures.role) c.new.ensures in
    let ds = in_order (map shown_decl_node c.in-Component.decls.items) in
    let j = (rw c.deref.ensures.value at
    ((c.in_ok-add_decls-in-Component.ensures {u = tt}).exact true own outer named table h d fresh)) u in
    rw (c.in-Component.is, shown_component c.in-Component.decls, c.new-in-Component.ensures, c.nothing.ensures)
    (declared_component true _ _ (after_decls ds (own ∷ outer) empty_body) own outer named table _ (facts (component_type ds) own outer) j refl refl refl refl)

pub type_facts-returns-in_err-add_decls-in-Component-clause-refused : goal.type_facts-returns-in_err-add_decls-in-Component-clause-refused
type_facts-returns-in_err-add_decls-in-Component-clause-refused t c = grind (arith, shown_component, refused_on)

pub type_facts-returns-in_err-add_decls-in-Instance-clause-judged : goal.type_facts-returns-in_err-add_decls-in-Instance-clause-judged
type_facts-returns-in_err-add_decls-in-Instance-clause-judged t c = λ own outer here names table s.
    let fresh = subst (λ r. IsFresh false r) (sym c.new-body-in-Instance.ensures.role) c.new-in-Instance.ensures in
    rw (c.in-Instance.is, shown_instance c.in-Instance.decls)
    (passed_on _ _ c.from_residual-in_err-add_decls-in-Instance.ensures.1
    (rw c.deref-in-Instance.ensures.value at
    ((c.in_err-add_decls-in-Instance.ensures {u = tt}).judged false own outer here names table s c.new-body-in-Instance.ensures.empty fresh)))
