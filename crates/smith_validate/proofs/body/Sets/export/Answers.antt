use Rattle.std.proofs.Common.{ap, sym, ◌∙◌, ◌∷◌, subst}
use Rattle.smith_tree.specs.Validates.{exported, names_of}
use Rattle.smith_validate.specs.Deferring.{IsExposure}
use Rattle.smith_validate.specs.Opening.{IsFound}
use Rattle.smith_validate.proofs.Judging.{err_by, on_by, refuse}
use Rattle.smith_validate.proofs.Piecing.{piece_openable}
use Rattle.smith_validate.proofs.SetsExactly.{export_alone, export_refused, export_unmet, export_used}
use Rattle.smith_validate.proofs.Sets.{export_met, export_single, export_within, use_is}
use Rattle.smith_validate.specs.Marks.{is_within}
use Rattle.smith_validate.proofs.body.Sets.export.Goals as goal

pub returns-in_default-clause-named : goal.returns-in_default-clause-named
returns-in_default-clause-named c = λ table names b xs ts i d sets.
    export_single table names c.args.self.now b c.args.what xs i sets
    (ap (λ l. is_within c.args.what.refers.outermost l) d ∙ (sym c.is_within.ensures ∙ (c.in_ok-check.ensures {u = tt}).holds)) c.in_default.is

pub returns-clause-named : goal.returns-clause-named
returns-clause-named c = λ table names b xs ts i d sets.
    let own = ap (λ l. is_within c.args.what.refers.outermost l) d ∙ (sym c.is_within.ensures ∙ (c.in_ok-check.ensures {u = tt}).holds) in
    let s = c.args.self.now in
    let k = c.args.what in
    let u = c.in-Some.used in
    let e = c.in-Some.is in
    let of = use_is table (names_of b.exports ∷ names) k xs i u e in
    on_by c.check-2.result
    (λ h. export_met table names s b k xs i sets own u e c.meets.new.self
    ((c.in_ok-meets.ensures {u = tt}).met table (exported b) ts sets.exported_are of.known (export_within table names s b k xs i sets own u e) h))
    c.check-2.ensures.holds

pub returns-in_err-check-clause-refused : goal.returns-in_err-check-clause-refused
returns-in_err-check-clause-refused c = λ table place around full b xs exact added i sets f d.
    refuse _ (export_refused table place around full c.args.what xs added i b f c.args.depth d
    (sym c.is_within.ensures ∙ (c.in_err-check.ensures {u = tt}).named))

pub returns-in_default-clause-exact : goal.returns-in_default-clause-exact
returns-in_default-clause-exact c = λ table place around full b xs exact added i sets.
    export_alone table place around full c.args.what xs added i b c.args.self.now sets c.in_default.is

pub returns-clause-exact : goal.returns-clause-exact
returns-clause-exact c = λ table place around full b xs exact added i sets.
    let u = c.in-Some.used in
    let k = c.args.what in
    let p = piece_openable table place around full k xs added i c.args.self.now.exported.exposed u c.in-Some.is in
    let found = (c.in_ok-meets.ensures {u = tt}).exact table (exported b) exact added.distinct sets.1 p in
    on_by c.check-2.result
    (λ h. export_used table place around full k xs added i b c.args.self.now c.meets.new.self u sets c.in-Some.is
    (subst (λ is. IsFound table u (IsExposure table c.meets.new.self) (exported b) is) h found))
    c.check-2.ensures.holds

pub returns-clause-refused : goal.returns-clause-refused
returns-clause-refused c = λ table place around full b xs exact added i sets f d.
    let u = c.in-Some.used in
    let k = c.args.what in
    let p = piece_openable table place around full k xs added i c.args.self.now.exported.exposed u c.in-Some.is in
    let found = (c.in_ok-meets.ensures {u = tt}).exact table (exported b) exact added.distinct sets.1 p in
    err_by c.check-2.result
    (λ e h _. export_unmet table place around full k xs added i b u c.in-Some.is
    (subst (λ is. IsFound table u (IsExposure table c.meets.new.self) (exported b) is) h found))
    c.check-2.ensures.named
