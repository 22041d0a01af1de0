use Rattle.std.proofs.Common.{◌++◌, List, [], ap, length, map, refl, subst, sym, ◌∙◌}
use Rattle.std.specs.Borrow.{Bor}
use Rattle.smith_format.specs.declared.types.FuncType.{FuncType}
use Rattle.smith_syntax.specs.ModuleTypes.{HasNewNames}
use Rattle.smith_syntax.proofs.Possible.{never_beyond}
use Rattle.smith_syntax.specs.Possible.{PossibleModule}
use Rattle.smith_syntax.specs.WellFormed.{FormedDecls}
use Rattle.smith_read.specs.Nodes.{shown_module_node}
use Rattle.smith_scopes.specs.NodeScopes.{outer_in, own_in}
use Rattle.smith_check.specs.Preceding.{functions_in}
use Rattle.smith_check.specs.Taken.{HoldsModule}
use Rattle.smith_check.proofs.Grading.{breaks_by, breaks_refuted, grades_passed}
use Rattle.smith_check.proofs.Judging.{Same, passed_on, refute_by, same_all, same_exit, same_step}
use Rattle.smith_check.proofs.ModuleSteps.{decls_at, module_at, new_upto, no_new_names, shown_more}
use Rattle.smith_check.proofs.modules.check_module.Goals as goal

pub loop-decl-init : goal.loop-decl-init
loop-decl-init c = record {
  left = subst
      (λ (fs : List (Bor FuncType)). Same (FormedDecls (own_in c.args.scopes.now).core_types [] (map shown_module_node c.args.decls.now))
      (FormedDecls (own_in c.args.scopes.now).core_types (functions_in fs) (map shown_module_node c.args.decls.now)))
      (sym c.new-own.ensures.items) same_all;
  may = subst
      (λ (fs : List (Bor FuncType)). PossibleModule (own_in c.args.scopes.now).core_types (length (outer_in c.args.scopes.now)) []
      (map shown_module_node c.args.decls.now) → PossibleModule (own_in c.args.scopes.now).core_types (length (outer_in c.args.scopes.now)) (functions_in fs)
      (map shown_module_node c.args.decls.now))
      (sym c.new-own.ensures.items) (λ p. p);
  holds = c.new-names.ensures;
  new = no_new_names;
}

pub loop-decl-preserved : goal.loop-decl-preserved
loop-decl-preserved c =
    let around = (own_in c.args.scopes.now).core_types in
    let own = functions_in c.loop-decl.own.items in
    let more = shown_more shown_module_node c.args.decls.now c.loop-decl.decl-index c.decl-item.result c.loop-decl-test.true c.decl-item.is in
    let added = (c.in_ok-push_function.ensures {u = tt}).added ∙ ap (λ fs. own ++ fs) (rw c.deref-in-loop-decl.ensures.value at c.added-ty.ensures) in
    let formed = rw c.deref.ensures.value at (c.in_ok-check_module_decl.ensures {u = tt}).judged in
    record {
      left = same_step c.loop-decl.invariant.left
          (decls_at around shown_module_node c.args.decls.now c.loop-decl.decl-index c.decl-item.result own (functions_in c.push_function.new.own.items)
          c.loop-decl-test.true c.decl-item.is added)
          formed;
      may = λ p.
          (module_at around (length (outer_in c.args.scopes.now)) shown_module_node c.args.decls.now
          c.loop-decl.decl-index c.decl-item.result own (functions_in c.push_function.new.own.items)
          c.loop-decl-test.true c.decl-item.is added (c.loop-decl.invariant.may p)).1
          (never_beyond around own (shown_module_node c.decl-item.result) formed);
      holds = subst (HoldsModule c.add.new.self) more ((c.in_ok-add.ensures {u = tt}).added _ c.loop-decl.invariant.holds);
      new = subst HasNewNames more ((c.in_ok-add.ensures {u = tt}).judged _ c.loop-decl.invariant.holds c.loop-decl.invariant.new);
    }

pub returns-in_err-check_module_decl-clause-judged : goal.returns-in_err-check_module_decl-clause-judged
returns-in_err-check_module_decl-clause-judged c =
    let around = (own_in c.args.scopes.now).core_types in
    let own = functions_in c.loop-decl.own.items in
    passed_on _ _ c.from_residual.ensures.1
    (refute_by (λ p. p.0)
    (same_exit c.loop-decl.invariant.left
    (decls_at around shown_module_node c.args.decls.now c.loop-decl.decl-index c.decl-item.result own _ c.loop-decl-test.true c.decl-item.is refl)
    (rw c.deref.ensures.value at (c.in_err-check_module_decl.ensures {u = tt}).judged)))

pub returns-in_err-check_module_decl-clause-graded : goal.returns-in_err-check_module_decl-clause-graded
returns-in_err-check_module_decl-clause-graded c =
    let around = (own_in c.args.scopes.now).core_types in
    let own = functions_in c.loop-decl.own.items in
    grades_passed _ _ c.from_residual.ensures.1
    (breaks_by
    (λ p. (module_at around (length (outer_in c.args.scopes.now)) shown_module_node c.args.decls.now
    c.loop-decl.decl-index c.decl-item.result own _ c.loop-decl-test.true c.decl-item.is refl
    (c.loop-decl.invariant.may p.0)).0)
    (rw c.deref.ensures.value at (c.in_err-check_module_decl.ensures {u = tt}).graded))

pub returns-in_err-add-clause-judged : goal.returns-in_err-add-clause-judged
returns-in_err-add-clause-judged c =
    passed_on _ _ c.from_residual-in_err-add.ensures.1
    (refute_by (λ p. new_upto shown_module_node c.args.decls.now c.loop-decl.decl-index c.decl-item.result c.loop-decl-test.true c.decl-item.is p.1)
    ((c.in_err-add.ensures {u = tt}).judged _ c.loop-decl.invariant.holds c.loop-decl.invariant.new))

pub returns-in_err-add-clause-graded : goal.returns-in_err-add-clause-graded
returns-in_err-add-clause-graded c =
    grades_passed _ _ c.from_residual-in_err-add.ensures.1
    (breaks_refuted (λ p. new_upto shown_module_node c.args.decls.now c.loop-decl.decl-index c.decl-item.result c.loop-decl-test.true c.decl-item.is p.1)
    ((c.in_err-add.ensures {u = tt}).judged _ c.loop-decl.invariant.holds c.loop-decl.invariant.new))
