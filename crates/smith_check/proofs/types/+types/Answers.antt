use Rattle.std.proofs.Common.{◌≡◌, ap, map, subst, sym, true, ◌∙◌}
use Rattle.std.specs.Prelude.{option_map}
use Rattle.smith_read.specs.Nodes.{shown_core_node}
use Rattle.smith_read.specs.TypeNodes.{shown_decl_node, shown_type_node}
use Rattle.smith_read.proofs.ShownNodes.{shown_alias, shown_core_alias, shown_instance}
use Rattle.smith_input.specs.Kebab.{Kebab}
use Rattle.smith_syntax.specs.Entries.{in_order}
use Rattle.smith_syntax.specs.Possible.{PossibleDeclarations, PossibleName}
use Rattle.smith_syntax.specs.Scope.{after_decl, empty_scope}
use Rattle.smith_scopes.specs.NodeScopes.{outer_in, own_in}
use Rattle.smith_check.specs.Taken.{KnowsDeclared}
use Rattle.smith_check.proofs.Grading.{breaks_by, grades_by, grades_passed}
use Rattle.smith_check.proofs.Judging.{passed_on, judged_by, refute_by}
use Rattle.smith_check.proofs.TypeSteps.{declarations_at, declared_upto, formed_more, named_none, one_more, possible_more, possible_none}
use Rattle.smith_check.proofs.types.+types.Goals as goal

pub check_decl-returns-in-Some-clause-judged : goal.check_decl-returns-in-Some-clause-judged
check_decl-returns-in-Some-clause-judged t c =
    rw (c.in-TypeAlias.is, shown_alias c.in-TypeAlias.count c.in-TypeAlias.index)
    (shown_type_node c.in-Some.field-0.now, sym c.type_named.ensures ∙ ap (option_map (λ f. shown_type_node f.now)) c.in-Some.is)

pub check_decl-returns-in-Some-core_type_named-clause-judged : goal.check_decl-returns-in-Some-core_type_named-clause-judged
check_decl-returns-in-Some-core_type_named-clause-judged t c =
    rw (c.in-CoreTypeAlias.is, shown_core_alias c.in-CoreTypeAlias.count c.in-CoreTypeAlias.index) (
      shown_core_node c.in-Some-core_type_named.field-0.now,
      sym c.core_type_named.ensures ∙ ap (option_map (λ f. shown_core_node f.now)) c.in-Some-core_type_named.is,
    )

pub check_decls-returns-in_err-add-clause-judged : goal.check_decls-returns-in_err-add-clause-judged
check_decls-returns-in_err-add-clause-judged t c =
    passed_on _ _ c.from_residual-in_err-add.ensures.1
    (refute_by (λ p. declared_upto Kebab c.args.decls.now c.loop-decl.decl-index c.decl-item.result c.loop-decl-test.true c.decl-item.is p.1)
    ((c.in_err-add.ensures {u = tt}).judged _ c.loop-decl.invariant.knows))

pub check_type-returns-in_ok-check_no_imports-in-Instance-clause-judged : goal.check_type-returns-in_ok-check_no_imports-in-Instance-clause-judged
check_type-returns-in_ok-check_no_imports-in-Instance-clause-judged t c =
    let none = rw c.deref-in-Instance.ensures.value at (c.in_ok-check_no_imports-in-Instance.ensures {u = tt}) in
    rw (c.in-Instance.is, shown_instance c.in-Instance.decls)
    (judged_by c.check_decls-in-Instance.result (λ p. (p.0, none, p.1.1)) (λ q. (q.0, (named_none _ none, q.2)))
    (rw c.deref-in-Instance-2.ensures.value at c.check_decls-in-Instance.ensures.judged))

pub check_decls-returns-in_err-add-clause-graded : goal.check_decls-returns-in_err-add-clause-graded
check_decls-returns-in_err-add-clause-graded t c =
    grades_passed _ _ c.from_residual-in_err-add.ensures.1
    (breaks_by
    (λ p. declared_upto (PossibleName true) c.args.decls.now c.loop-decl.decl-index c.decl-item.result c.loop-decl-test.true c.decl-item.is p.1)
    ((c.in_err-add.ensures {u = tt}).graded _ c.loop-decl.invariant.knows))

pub check_decls-returns-in_err-check_decl-clause-graded : goal.check_decls-returns-in_err-check_decl-clause-graded
check_decls-returns-in_err-check_decl-clause-graded t c =
    let inv = c.loop-decl.invariant in
    grades_passed _ _ c.from_residual-in_err-check_decl.ensures.1
    (breaks_by
    (λ p. (declarations_at c.args.decls.now c.loop-decl.decl-index c.decl-item.result (own_in c.loop-decl.scopes) (outer_in c.loop-decl.scopes)
    c.loop-decl-test.true c.decl-item.is
    (inv.may (subst (PossibleDeclarations (in_order (map shown_decl_node c.args.decls.now)) empty_scope) (sym inv.outer) p.0))).0)
    (c.in_err-check_decl.ensures {u = tt}).graded)

pub check_decls-loop-decl-preserved : goal.check_decls-loop-decl-preserved
check_decls-loop-decl-preserved t c =
    let inv = c.loop-decl.invariant in
    let checked = c.in_ok-check_decl.ensures {u = tt} in
    let added = c.in_ok-add_decl.ensures {u = tt} in
    let ds = c.args.decls.now in
    let i = c.loop-decl.decl-index in
    let d = c.decl-item.result in
    let own = own_in c.loop-decl.scopes in
    let outer = outer_in c.loop-decl.scopes in
    let kept : outer_in c.add_decl.new.self ≡ outer = added.outer ∙ checked.outer in
    let grown : own_in c.add_decl.new.self ≡ after_decl outer own (shown_decl_node d) =
    added.own ∙ ap (λ o. after_decl o (own_in c.check_decl.new.scopes) (shown_decl_node d)) checked.outer
    ∙ ap (λ s. after_decl outer s (shown_decl_node d)) checked.own in
    record {
      outer = kept ∙ inv.outer;
      left = rw (kept, grown) (formed_more ds i d c.loop-decl-test.true c.decl-item.is own outer checked.judged _ inv.left);
      may = rw (kept, grown) (λ p. possible_more ds i d c.loop-decl-test.true c.decl-item.is own outer checked.judged (inv.may p));
      knows = subst (KnowsDeclared c.add.new.self) (one_more ds i d c.loop-decl-test.true c.decl-item.is)
          ((c.in_ok-add.ensures {u = tt}).added _ inv.knows);
    }

pub check_type-returns-in_ok-check_no_imports-in-Instance-clause-graded : goal.check_type-returns-in_ok-check_no_imports-in-Instance-clause-graded
check_type-returns-in_ok-check_no_imports-in-Instance-clause-graded t c =
    let none = rw c.deref-in-Instance.ensures.value at (c.in_ok-check_no_imports-in-Instance.ensures {u = tt}) in
    rw (c.in-Instance.is, shown_instance c.in-Instance.decls)
    (grades_by c.check_decls-in-Instance.result (λ q. (q.0, (possible_none _ none, q.2)))
    (rw c.deref-in-Instance-2.ensures.value at c.check_decls-in-Instance.ensures.graded))
