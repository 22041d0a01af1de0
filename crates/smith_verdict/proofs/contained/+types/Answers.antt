use Rattle.std.proofs.Common.{ap, map, sym, subst, ◌∙◌}
use Rattle.smith_input.proofs.Rests.{drop_past, rest_at}
use Rattle.smith_syntax.specs.Entries.{component_type, export_decl, import_decl, in_order, instance_type}
use Rattle.smith_read.specs.TypeNodes.{shown_decl_node, shown_type_node}
use Rattle.smith_read.proofs.ShownNodes.{shown_alias, shown_component, shown_core, shown_core_alias, shown_declared, shown_export, shown_function}
use Rattle.smith_read.proofs.ShownNodes.{shown_import, shown_instance, shown_values}
use Rattle.smith_check.proofs.Judging.{same_by, same_step}
use Rattle.smith_verdict.specs.Contained.{IsPlainContent, IsWithinBounds, OfDecl, OfDecls, OfEntry}
use Rattle.smith_verdict.specs.Shows.{Shows}
use Rattle.smith_verdict.specs.declared.contained.Found.TheVariants.{Reference, TooMuch}
use Rattle.smith_verdict.proofs.contained.+types.Goals as goal

pub check_type-returns-in-Defined-clause-plain : goal.check_type-returns-in-Defined-clause-plain
check_type-returns-in-Defined-clause-plain t c =
    subst (λ e. Shows Reference c.check_defined.result (OfEntry IsPlainContent e)) (sym (ap shown_type_node c.in-Defined.is ∙ shown_values c.in-Defined.ty))
    c.check_defined.ensures.plain

pub check_type-returns-in-Defined-clause-bounded : goal.check_type-returns-in-Defined-clause-bounded
check_type-returns-in-Defined-clause-bounded t c =
    subst (λ e. Shows TooMuch c.check_defined.result (OfEntry IsWithinBounds e)) (sym (ap shown_type_node c.in-Defined.is ∙ shown_values c.in-Defined.ty))
    c.check_defined.ensures.bounded

pub check_type-returns-in-Func-clause-plain : goal.check_type-returns-in-Func-clause-plain
check_type-returns-in-Func-clause-plain t c =
    subst (λ e. Shows Reference c.check_function.result (OfEntry IsPlainContent e)) (sym (ap shown_type_node c.in-Func.is ∙ shown_function c.in-Func.ty))
    c.check_function.ensures.plain

pub check_type-returns-in-Func-clause-bounded : goal.check_type-returns-in-Func-clause-bounded
check_type-returns-in-Func-clause-bounded t c =
    subst (λ e. Shows TooMuch c.check_function.result (OfEntry IsWithinBounds e)) (sym (ap shown_type_node c.in-Func.is ∙ shown_function c.in-Func.ty))
    c.check_function.ensures.bounded

pub check_type-returns-in-Component-clause-plain : goal.check_type-returns-in-Component-clause-plain
check_type-returns-in-Component-clause-plain t c =
    subst (λ e. Shows Reference c.check_decls.result (OfEntry IsPlainContent e)) (sym (ap shown_type_node c.in-Component.is
    ∙ shown_component c.in-Component.decls ∙ ap (λ ds. component_type (in_order (map shown_decl_node ds))) (sym c.deref.ensures.value)))
    c.check_decls.ensures.plain

pub check_type-returns-in-Component-clause-bounded : goal.check_type-returns-in-Component-clause-bounded
check_type-returns-in-Component-clause-bounded t c =
    subst (λ e. Shows TooMuch c.check_decls.result (OfEntry IsWithinBounds e)) (sym (ap shown_type_node c.in-Component.is
    ∙ shown_component c.in-Component.decls ∙ ap (λ ds. component_type (in_order (map shown_decl_node ds))) (sym c.deref.ensures.value)))
    c.check_decls.ensures.bounded

pub check_type-returns-in-Instance-clause-plain : goal.check_type-returns-in-Instance-clause-plain
check_type-returns-in-Instance-clause-plain t c =
    subst (λ e. Shows Reference c.check_decls-in-Instance.result (OfEntry IsPlainContent e)) (sym (ap shown_type_node c.in-Instance.is
    ∙ shown_instance c.in-Instance.decls ∙ ap (λ ds. instance_type (in_order (map shown_decl_node ds))) (sym c.deref-in-Instance.ensures.value)))
    c.check_decls-in-Instance.ensures.plain

pub check_type-returns-in-Instance-clause-bounded : goal.check_type-returns-in-Instance-clause-bounded
check_type-returns-in-Instance-clause-bounded t c =
    subst (λ e. Shows TooMuch c.check_decls-in-Instance.result (OfEntry IsWithinBounds e)) (sym (ap shown_type_node c.in-Instance.is
    ∙ shown_instance c.in-Instance.decls ∙ ap (λ ds. instance_type (in_order (map shown_decl_node ds))) (sym c.deref-in-Instance.ensures.value)))
    c.check_decls-in-Instance.ensures.bounded

pub check_decl-returns-in-Core-clause-plain : goal.check_decl-returns-in-Core-clause-plain
check_decl-returns-in-Core-clause-plain t c =
    subst (λ d. Shows Reference c.check_core.result (OfDecl IsPlainContent d)) (sym (ap shown_decl_node c.in-Core.is ∙ shown_core c.in-Core.ty))
    c.check_core.ensures.plain

pub check_decl-returns-in-Core-clause-bounded : goal.check_decl-returns-in-Core-clause-bounded
check_decl-returns-in-Core-clause-bounded t c =
    subst (λ d. Shows TooMuch c.check_core.result (OfDecl IsWithinBounds d)) (sym (ap shown_decl_node c.in-Core.is ∙ shown_core c.in-Core.ty))
    c.check_core.ensures.bounded

pub check_decl-returns-in-Type-clause-plain : goal.check_decl-returns-in-Type-clause-plain
check_decl-returns-in-Type-clause-plain t c =
    subst (λ d. Shows Reference c.check_type.result (OfDecl IsPlainContent d)) (sym (ap shown_decl_node c.in-Type.is ∙ shown_declared c.in-Type.ty))
    c.check_type.ensures.plain

pub check_decl-returns-in-Type-clause-bounded : goal.check_decl-returns-in-Type-clause-bounded
check_decl-returns-in-Type-clause-bounded t c =
    subst (λ d. Shows TooMuch c.check_type.result (OfDecl IsWithinBounds d)) (sym (ap shown_decl_node c.in-Type.is ∙ shown_declared c.in-Type.ty))
    c.check_type.ensures.bounded

pub check_decl-returns-in-TypeAlias-clause-plain : goal.check_decl-returns-in-TypeAlias-clause-plain
check_decl-returns-in-TypeAlias-clause-plain t c =
    subst (λ d. OfDecl IsPlainContent d) (sym (ap shown_decl_node c.in-TypeAlias.is ∙ shown_alias c.in-TypeAlias.count c.in-TypeAlias.index)) tt

pub check_decl-returns-in-TypeAlias-clause-bounded : goal.check_decl-returns-in-TypeAlias-clause-bounded
check_decl-returns-in-TypeAlias-clause-bounded t c =
    subst (λ d. OfDecl IsWithinBounds d) (sym (ap shown_decl_node c.in-TypeAlias.is ∙ shown_alias c.in-TypeAlias.count c.in-TypeAlias.index)) tt

pub check_decl-returns-in-CoreTypeAlias-clause-plain : goal.check_decl-returns-in-CoreTypeAlias-clause-plain
check_decl-returns-in-CoreTypeAlias-clause-plain t c =
    subst (λ d. OfDecl IsPlainContent d) (sym (ap shown_decl_node c.in-CoreTypeAlias.is
    ∙ shown_core_alias c.in-CoreTypeAlias.count c.in-CoreTypeAlias.index)) tt

pub check_decl-returns-in-CoreTypeAlias-clause-bounded : goal.check_decl-returns-in-CoreTypeAlias-clause-bounded
check_decl-returns-in-CoreTypeAlias-clause-bounded t c =
    subst (λ d. OfDecl IsWithinBounds d) (sym (ap shown_decl_node c.in-CoreTypeAlias.is
    ∙ shown_core_alias c.in-CoreTypeAlias.count c.in-CoreTypeAlias.index)) tt

pub check_decl-returns-in-Import-clause-plain : goal.check_decl-returns-in-Import-clause-plain
check_decl-returns-in-Import-clause-plain t c =
    subst (λ d. Shows Reference c.check_text.result (OfDecl IsPlainContent d))
    (sym (ap shown_decl_node c.in-Import.is ∙ shown_import c.in-Import.name c.in-Import.to ∙ ap (λ n. import_decl n tt c.in-Import.to) (sym c.deref.ensures)))
    c.check_text.ensures.plain

pub check_decl-returns-in-Import-clause-bounded : goal.check_decl-returns-in-Import-clause-bounded
check_decl-returns-in-Import-clause-bounded t c =
    subst (λ d. Shows TooMuch c.check_text.result (OfDecl IsWithinBounds d))
    (sym (ap shown_decl_node c.in-Import.is ∙ shown_import c.in-Import.name c.in-Import.to ∙ ap (λ n. import_decl n tt c.in-Import.to) (sym c.deref.ensures)))
    c.check_text.ensures.bounded

pub check_decl-returns-in-Export-clause-plain : goal.check_decl-returns-in-Export-clause-plain
check_decl-returns-in-Export-clause-plain t c =
    subst (λ d. Shows Reference c.check_text-in-Export.result (OfDecl IsPlainContent d))
    (sym (ap shown_decl_node c.in-Export.is ∙ shown_export c.in-Export.name c.in-Export.to
    ∙ ap (λ n. export_decl n tt c.in-Export.to) (sym c.deref-in-Export.ensures)))
    c.check_text-in-Export.ensures.plain

pub check_decl-returns-in-Export-clause-bounded : goal.check_decl-returns-in-Export-clause-bounded
check_decl-returns-in-Export-clause-bounded t c =
    subst (λ d. Shows TooMuch c.check_text-in-Export.result (OfDecl IsWithinBounds d))
    (sym (ap shown_decl_node c.in-Export.is ∙ shown_export c.in-Export.name c.in-Export.to
    ∙ ap (λ n. export_decl n tt c.in-Export.to) (sym c.deref-in-Export.ensures)))
    c.check_text-in-Export.ensures.bounded

pub check_decls-loop-decl-preserved : goal.check_decls-loop-decl-preserved
check_decls-loop-decl-preserved t c = record {
  plain = same_step c.loop-decl.invariant.plain
      (same_by (λ ds. OfDecls IsPlainContent (in_order (map shown_decl_node ds))) _ _
      (rest_at c.args.decls.now c.loop-decl.decl-index c.decl-item.result c.loop-decl-test.true c.decl-item.is))
      (c.in_ok-check_decl.ensures {u = tt}).plain;
  bounded = same_step c.loop-decl.invariant.bounded
      (same_by (λ ds. OfDecls IsWithinBounds (in_order (map shown_decl_node ds))) _ _
      (rest_at c.args.decls.now c.loop-decl.decl-index c.decl-item.result c.loop-decl-test.true c.decl-item.is))
      (c.in_ok-check_decl.ensures {u = tt}).bounded;
}

pub check_decls-returns-clause-plain : goal.check_decls-returns-clause-plain
check_decls-returns-clause-plain t c =
    c.loop-decl.invariant.plain.from
    (subst (λ ds. OfDecls IsPlainContent (in_order (map shown_decl_node ds))) (sym
    (drop_past c.args.decls.now c.loop-decl.decl-index c.loop-decl-test.false)) tt)

pub check_decls-returns-clause-bounded : goal.check_decls-returns-clause-bounded
check_decls-returns-clause-bounded t c =
    c.loop-decl.invariant.bounded.from
    (subst (λ ds. OfDecls IsWithinBounds (in_order (map shown_decl_node ds))) (sym
    (drop_past c.args.decls.now c.loop-decl.decl-index c.loop-decl-test.false)) tt)
