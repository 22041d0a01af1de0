use Rattle.std.proofs.Common.{refl}
use Rattle.smith_format.specs.Shown.{shown_func}
use Rattle.smith_syntax.specs.Entries.{aliases, declares}
use Rattle.smith_check.proofs.ModuleSteps.{export_judged, import_judged, quiet_new}
use Rattle.smith_check.proofs.modules.ModuleNames.add.Goals as goal

pub returns-in-Func-clause-judged : goal.returns-in-Func-clause-judged
returns-in-Func-clause-judged c = λ before h n. rw c.in-Func.is (quiet_new before (declares (shown_func c.in-Func.field-0)) refl refl n)

pub returns-in-OuterAlias-clause-judged : goal.returns-in-OuterAlias-clause-judged
returns-in-OuterAlias-clause-judged c = λ before h n.
    rw c.in-OuterAlias.is (quiet_new before (aliases c.in-OuterAlias.count c.in-OuterAlias.index) refl refl n)

pub returns-in-Import-clause-judged : goal.returns-in-Import-clause-judged
returns-in-Import-clause-judged c = λ before h n.
    let j = import_judged c.add_import.result c.args.self.now c.deref.result c.deref-in-Import.result c.in-Import.entity before h n
    c.add_import.ensures.fresh c.add_import.ensures.refused in
    rw c.in-Import.is (rw (c.deref.ensures, c.deref-in-Import.ensures) at j)

pub returns-in-Export-clause-judged : goal.returns-in-Export-clause-judged
returns-in-Export-clause-judged c = λ before h n.
    rw c.in-Export.is
    (export_judged c.add_new.result c.args.self.now _ c.in-Export.entity before n
    (rw c.deref-in-Export.ensures at (c.add_new.ensures.judged _ h.exports n.exported)))
