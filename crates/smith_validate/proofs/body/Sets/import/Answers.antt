use Rattle.std.proofs.Common.{sym, ◌∙◌, subst}
use Rattle.smith_tree.specs.Validates.{exported, imported}
use Rattle.smith_validate.specs.Deferring.{IsExposure}
use Rattle.smith_validate.specs.Opening.{IsFound}
use Rattle.smith_validate.proofs.Judging.{err_by, on_by, refuse}
use Rattle.smith_validate.proofs.Piecing.{piece_openable}
use Rattle.smith_validate.proofs.SetsExactly.{import_alone, import_refused, import_unmet, import_unmet_too, import_used}
use Rattle.smith_validate.proofs.Sets.{import_met, import_single, import_within, use_is}
use Rattle.smith_validate.specs.declared.body.Sets.{Sets}
use Rattle.smith_validate.proofs.body.Sets.import.Goals as goal

pub returns-in_default-clause-named : goal.returns-in_default-clause-named
returns-in_default-clause-named c = λ table names b xs ts i sets.
    import_single table names c.args.self.now b c.args.what xs i sets (sym c.is_nothing.ensures ∙ (c.in_ok-check.ensures {u = tt}).holds) c.in_default.is

pub returns-clause-named : goal.returns-clause-named
returns-clause-named c = λ table names b xs ts i sets.
    let none = sym c.is_nothing.ensures ∙ (c.in_ok-check.ensures {u = tt}).holds in
    let s = c.args.self.now in
    let k = c.args.what in
    let u = c.in-Some.used in
    let e = c.in-Some.is in
    let of = use_is table names k xs i u e in
    let met = (c.in_ok-meets.ensures {u = tt}).met table (imported b) ts sets.imported_are of.known
    (import_within table names s b k xs i sets none u e (imported b)) (c.in_ok-check-2.ensures {u = tt}).holds in
    let n : Sets = record { imported = c.meets.new.self; exported = c.meets-2.new.self } in
    on_by c.check-3.result
    (λ h. import_met table names s b k xs i sets none u e n met
    ((c.in_ok-meets-2.ensures {u = tt}).met table (exported b) ts sets.exported_are of.known
    (import_within table names s b k xs i sets none u e (exported b)) h))
    c.check-3.ensures.holds

pub returns-in_err-check-clause-refused : goal.returns-in_err-check-clause-refused
returns-in_err-check-clause-refused c = λ table place around full b xs exact added i sets f.
    refuse _ (import_refused table place around full c.args.what xs added i b f (sym c.is_nothing.ensures ∙ (c.in_err-check.ensures {u = tt}).named))

pub returns-in_default-clause-exact : goal.returns-in_default-clause-exact
returns-in_default-clause-exact c = λ table place around full b xs exact added i sets.
    import_alone table place around full c.args.what xs added i b c.args.self.now sets c.in_default.is

pub returns-in_err-check-2-clause-refused : goal.returns-in_err-check-2-clause-refused
returns-in_err-check-2-clause-refused c = λ table place around full b xs exact added i sets f.
    let u = c.in-Some.used in
    let k = c.args.what in
    let o = piece_openable table place around full k xs added i c.args.self.now.imported.exposed u c.in-Some.is in
    let found = (c.in_ok-meets.ensures {u = tt}).exact table (imported b) exact added.distinct sets.0 o in
    let not_met = subst (λ is. IsFound table u (IsExposure table c.meets.new.self) (imported b) is) (c.in_err-check-2.ensures {u = tt}).named found in
    refuse _ (import_unmet table place around full k xs added i b u c.in-Some.is not_met)

pub returns-clause-exact : goal.returns-clause-exact
returns-clause-exact c = λ table place around full b xs exact added i sets.
    let u = c.in-Some.used in
    let k = c.args.what in
    let o = piece_openable table place around full k xs added i c.args.self.now.imported.exposed u c.in-Some.is in
    let p = piece_openable table place around full k xs added i c.args.self.now.exported.exposed u c.in-Some.is in
    let found = (c.in_ok-meets.ensures {u = tt}).exact table (imported b) exact added.distinct sets.0 o in
    let met = subst (λ is. IsFound table u (IsExposure table c.meets.new.self) (imported b) is) (c.in_ok-check-2.ensures {u = tt}).holds found in
    let then = (c.in_ok-meets-2.ensures {u = tt}).exact table (exported b) exact added.distinct sets.1 p in
    let n : Sets = record { imported = c.meets.new.self; exported = c.meets-2.new.self } in
    on_by c.check-3.result
    (λ h. import_used table place around full k xs added i b n u c.in-Some.is met (subst (λ is. IsFound table u (IsExposure table c.meets-2.new.self)
    (exported b) is) h then))
    c.check-3.ensures.holds

pub returns-clause-refused : goal.returns-clause-refused
returns-clause-refused c = λ table place around full b xs exact added i sets f.
    let u = c.in-Some.used in
    let k = c.args.what in
    let p = piece_openable table place around full k xs added i c.args.self.now.exported.exposed u c.in-Some.is in
    let then = (c.in_ok-meets-2.ensures {u = tt}).exact table (exported b) exact added.distinct sets.1 p in
    err_by c.check-3.result
    (λ e h _. import_unmet_too table place around full k xs added i b u c.in-Some.is
    (subst (λ is. IsFound table u (IsExposure table c.meets-2.new.self) (exported b) is) h then))
    c.check-3.ensures.named
