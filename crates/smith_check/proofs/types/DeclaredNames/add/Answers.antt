use Rattle.std.proofs.Common.{ap, refl, subst, sym, true, ◌∙◌}
use Rattle.smith_read.specs.TypeNodes.{shown_decl_node}
use Rattle.smith_read.proofs.ShownNodes.{shown_alias, shown_core, shown_core_alias, shown_declared}
use Rattle.smith_syntax.specs.WellFormed.{Named}
use Rattle.smith_check.specs.Taken.{Knows}
use Rattle.smith_syntax.specs.Possible.{PossibleNames}
use Rattle.smith_check.proofs.Grading.{grades_by}
use Rattle.smith_check.proofs.Judging.{judged_by, on_by}
use Rattle.smith_check.proofs.TypeSteps.{export_push, import_push, known_named, quiet_at}
use Rattle.smith_check.proofs.types.DeclaredNames.add.Goals as goal

pub returns-in-Import-clause-judged : goal.returns-in-Import-clause-judged
returns-in-Import-clause-judged c = λ before k.
    let e = import_push before c.args.decl.now c.in-Import.name c.in-Import.to c.in-Import.is in
    judged_by c.add.result (λ p. (subst Named (sym e.0) p, subst Named (sym e.1) k.exports.named)) (λ q. subst Named e.0 q.0)
    (rw c.deref.ensures at (c.add.ensures.judged _ k.imports))

pub returns-in-Import-clause-added : goal.returns-in-Import-clause-added
returns-in-Import-clause-added c = λ before k.
    let e = import_push before c.args.decl.now c.in-Import.name c.in-Import.to c.in-Import.is in
    on_by c.add.result (λ p. record { imports = subst (Knows c.add.new.self) (sym e.0) p; exports = subst (Knows c.args.self.now.exports) (sym e.1) k.exports })
    (rw c.deref.ensures at (c.add.ensures.added _ k.imports))

pub returns-in-Export-clause-judged : goal.returns-in-Export-clause-judged
returns-in-Export-clause-judged c = λ before k.
    let e = export_push before c.args.decl.now c.in-Export.name c.in-Export.to c.in-Export.is in
    judged_by c.add-in-Export.result (λ p. (subst Named (sym e.1) k.imports.named, subst Named (sym e.0) p)) (λ q. subst Named e.0 q.1)
    (rw c.deref-in-Export.ensures at (c.add-in-Export.ensures.judged _ k.exports))

pub returns-in-Export-clause-added : goal.returns-in-Export-clause-added
returns-in-Export-clause-added c = λ before k.
    let e = export_push before c.args.decl.now c.in-Export.name c.in-Export.to c.in-Export.is in
    on_by c.add-in-Export.result
    (λ p. record {
      imports = subst (Knows c.args.self.now.imports) (sym e.1) k.imports;
      exports = subst (Knows c.add-in-Export.new.self) (sym e.0) p;
    })
    (rw c.deref-in-Export.ensures at (c.add-in-Export.ensures.added _ k.exports))

pub returns-in-Core-clause-judged : goal.returns-in-Core-clause-judged
returns-in-Core-clause-judged c = λ before k.
    known_named _ _ (quiet_at _ _ _ _ (ap shown_decl_node c.in-Core.is ∙ shown_core c.in-Core.field-0) refl refl k)

pub returns-in-Core-clause-added : goal.returns-in-Core-clause-added
returns-in-Core-clause-added c = λ before k.
    quiet_at _ _ _ _ (ap shown_decl_node c.in-Core.is ∙ shown_core c.in-Core.field-0) refl refl k

pub returns-in-Type-clause-judged : goal.returns-in-Type-clause-judged
returns-in-Type-clause-judged c = λ before k.
    known_named _ _ (quiet_at _ _ _ _ (ap shown_decl_node c.in-Type.is ∙ shown_declared c.in-Type.field-0) refl refl k)

pub returns-in-Type-clause-added : goal.returns-in-Type-clause-added
returns-in-Type-clause-added c = λ before k.
    quiet_at _ _ _ _ (ap shown_decl_node c.in-Type.is ∙ shown_declared c.in-Type.field-0) refl refl k

pub returns-in-TypeAlias-clause-judged : goal.returns-in-TypeAlias-clause-judged
returns-in-TypeAlias-clause-judged c = λ before k.
    known_named _ _ (quiet_at _ _ _ _ (ap shown_decl_node c.in-TypeAlias.is ∙ shown_alias _ _) refl refl k)

pub returns-in-TypeAlias-clause-added : goal.returns-in-TypeAlias-clause-added
returns-in-TypeAlias-clause-added c = λ before k.
    quiet_at _ _ _ _ (ap shown_decl_node c.in-TypeAlias.is ∙ shown_alias _ _) refl refl k

pub returns-in-CoreTypeAlias-clause-judged : goal.returns-in-CoreTypeAlias-clause-judged
returns-in-CoreTypeAlias-clause-judged c = λ before k.
    known_named _ _ (quiet_at _ _ _ _ (ap shown_decl_node c.in-CoreTypeAlias.is ∙ shown_core_alias _ _) refl refl k)

pub returns-in-CoreTypeAlias-clause-added : goal.returns-in-CoreTypeAlias-clause-added
returns-in-CoreTypeAlias-clause-added c = λ before k.
    quiet_at _ _ _ _ (ap shown_decl_node c.in-CoreTypeAlias.is ∙ shown_core_alias _ _) refl refl k

pub returns-in-Import-clause-graded : goal.returns-in-Import-clause-graded
returns-in-Import-clause-graded c = λ before k.
    let e = import_push before c.args.decl.now c.in-Import.name c.in-Import.to c.in-Import.is in
    grades_by c.add.result (λ q. subst (PossibleNames true) e.0 q.0) (rw c.deref.ensures at (c.add.ensures.graded _ k.imports))

pub returns-in-Export-clause-graded : goal.returns-in-Export-clause-graded
returns-in-Export-clause-graded c = λ before k.
    let e = export_push before c.args.decl.now c.in-Export.name c.in-Export.to c.in-Export.is in
    grades_by c.add-in-Export.result (λ q. subst (PossibleNames true) e.0 q.1) (rw c.deref-in-Export.ensures at (c.add-in-Export.ensures.graded _ k.exports))
