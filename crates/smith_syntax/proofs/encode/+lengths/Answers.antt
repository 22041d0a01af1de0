use Rattle.std.proofs.Common.{arith, true, false}
use Rattle.smith_format.proofs.Sizes.{sum_none, sum_next, sum_all, each_too_much, each_reaches, many_too_much, length_then, too_much_right}
use Rattle.smith_syntax.specs.Grammar.{decl}
use Rattle.smith_syntax.specs.ShownDecls.{shown_component_decl, shown_instance_decl}
use Rattle.smith_syntax.proofs.Declarations.{entry_component, entry_instance, length_behind}
use Rattle.smith_syntax.proofs.encode.+lengths.Goals as goal

pub declarations::component_decls_len-loop-declared-init : goal.declarations::component_decls_len-loop-declared-init
declarations::component_decls_len-loop-declared-init t c = sum_none _ _

pub declarations::component_decls_len-returns-in_err-component_decl_len : goal.declarations::component_decls_len-returns-in_err-component_decl_len
declarations::component_decls_len-returns-in_err-component_decl_len t c =
    rw c.from_residual.ensures
    (many_too_much (λ d. decl true (shown_component_decl d)) _
    (each_too_much _ _ _ _ c.loop-declared-test.true c.declared-item.is (c.in_err-component_decl_len.ensures {u = tt})))

pub declarations::component_decls_len-returns-in_err-total : goal.declarations::component_decls_len-returns-in_err-total
declarations::component_decls_len-returns-in_err-total t c =
    rw c.from_residual-in_err-total.ensures
    (many_too_much (λ d. decl true (shown_component_decl d)) _
    (each_reaches _ _ _ _ _ _ c.loop-declared-test.true c.declared-item.is c.loop-declared.invariant ((c.in_ok-component_decl_len.ensures {u = tt}).0)
    (omega (arith, c.in_err-total.ensures {u = tt}))))

pub declarations::component_decls_len-loop-declared-preserved : goal.declarations::component_decls_len-loop-declared-preserved
declarations::component_decls_len-loop-declared-preserved t c = sum_next _ _ _ _ _ _ _ c.loop-declared.invariant c.loop-declared-test.true c.declared-item.is
    ((c.in_ok-component_decl_len.ensures {u = tt}).0) ((c.in_ok-total.ensures {u = tt}).1)

pub declarations::component_decls_len-returns : goal.declarations::component_decls_len-returns
declarations::component_decls_len-returns t c =
    length_then c.checked_add-2.result c.checked_add-2.ensures ((c.in_ok-count_len.ensures {u = tt}).0)
    (sum_all _ _ _ _ c.loop-declared.invariant c.loop-declared-test.false)

pub declarations::instance_decls_len-loop-declared-init : goal.declarations::instance_decls_len-loop-declared-init
declarations::instance_decls_len-loop-declared-init t c = sum_none _ _

pub declarations::instance_decls_len-returns-in_err-instance_decl_len : goal.declarations::instance_decls_len-returns-in_err-instance_decl_len
declarations::instance_decls_len-returns-in_err-instance_decl_len t c =
    rw c.from_residual.ensures
    (many_too_much (λ d. decl false (shown_instance_decl d)) _
    (each_too_much _ _ _ _ c.loop-declared-test.true c.declared-item.is (c.in_err-instance_decl_len.ensures {u = tt})))

pub declarations::instance_decls_len-returns-in_err-total : goal.declarations::instance_decls_len-returns-in_err-total
declarations::instance_decls_len-returns-in_err-total t c =
    rw c.from_residual-in_err-total.ensures
    (many_too_much (λ d. decl false (shown_instance_decl d)) _
    (each_reaches _ _ _ _ _ _ c.loop-declared-test.true c.declared-item.is c.loop-declared.invariant ((c.in_ok-instance_decl_len.ensures {u = tt}).0)
    (omega (arith, c.in_err-total.ensures {u = tt}))))

pub declarations::instance_decls_len-loop-declared-preserved : goal.declarations::instance_decls_len-loop-declared-preserved
declarations::instance_decls_len-loop-declared-preserved t c = sum_next _ _ _ _ _ _ _ c.loop-declared.invariant c.loop-declared-test.true c.declared-item.is
    ((c.in_ok-instance_decl_len.ensures {u = tt}).0) ((c.in_ok-total.ensures {u = tt}).1)

pub declarations::instance_decls_len-returns : goal.declarations::instance_decls_len-returns
declarations::instance_decls_len-returns t c =
    length_then c.checked_add-2.result c.checked_add-2.ensures ((c.in_ok-count_len.ensures {u = tt}).0)
    (sum_all _ _ _ _ c.loop-declared.invariant c.loop-declared-test.false)

pub type_len-returns-in_err-component_decls_len-in-Component : goal.type_len-returns-in_err-component_decls_len-in-Component
type_len-returns-in_err-component_decls_len-in-Component t c = grind (arith, entry_component, too_much_right)

pub type_len-returns-in_ok-component_decls_len-in-Component : goal.type_len-returns-in_ok-component_decls_len-in-Component
type_len-returns-in_ok-component_decls_len-in-Component t c = grind (arith, entry_component, length_behind)

pub type_len-returns-in_err-instance_decls_len-in-Instance : goal.type_len-returns-in_err-instance_decls_len-in-Instance
type_len-returns-in_err-instance_decls_len-in-Instance t c = grind (arith, entry_instance, too_much_right)

pub type_len-returns-in_ok-instance_decls_len-in-Instance : goal.type_len-returns-in_ok-instance_decls_len-in-Instance
type_len-returns-in_ok-instance_decls_len-in-Instance t c = grind (arith, entry_instance, length_behind)
