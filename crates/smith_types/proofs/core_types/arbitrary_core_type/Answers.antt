use Rattle.std.proofs.Common.{sym, ap, ◌∙◌, subst, ℕ, List}
use Rattle.smith_types.specs.MadeCore.{MadeCore}
use Rattle.smith_types.specs.MakingCore.{CoreMadeToFit}
use Rattle.smith_syntax.specs.Places.{own_of}
use Rattle.smith_scopes.specs.Scopes.{inward}
use Rattle.smith_syntax.specs.Shown.{shown_core}
use Rattle.smith_syntax.specs.declared.core_types.CoreType.{CoreType}
use Rattle.smith_types.proofs.CoreScript.{core_read}
use Rattle.smith_types.proofs.MadeCore.{core_fits}
use Rattle.smith_types.proofs.MadeCoreSame.{made_core_same}
use Rattle.smith_types.proofs.core_types.arbitrary_core_type.Goals as goal

pub returns-clause-made : goal.returns-clause-made
returns-clause-made c =
    let made = c.in_ok-made.ensures.made in
    let fits = core_fits made in
    let Fits : CoreType → Type 0 = λ t. CoreMadeToFit c.args.config.now (own_of (inward c.args.scopes.now)) c.args.u.now c.args.fuel.now t
    c.make_core_type.new.u c.make_core_type.new.fuel in
    subst Fits (sym c.in_ok-shared.ensures.ok) (record {
      made = made;
      kept = c.in_ok-made.ensures.kept;
      formed = fits.formed;
      limits = fits.limits;
      size = fits.takes.within;
    })

pub returns-clause-script : goal.returns-clause-script
returns-clause-script c e rest formed limits texts need few short said =
    let config = c.args.config.now in
    let own = own_of (inward c.args.scopes.now) in
    let fuel = c.args.fuel.now in
    let P : List ℕ → Type 0 = λ bytes. MadeCore config own bytes fuel (shown_core c.in_ok-made.made) c.make_core_type.new.u c.make_core_type.new.fuel in
    let d = made_core_same (subst P said c.in_ok-made.ensures.made) (core_read config own fuel e rest formed limits texts need few short) in
    (ap shown_core c.in_ok-shared.ensures.ok ∙ d.value, d.rest)
