use Rattle.std.proofs.Common.{ap, sym, ◌∙◌, refl, subst}
use Rattle.std.specs.Option.{IsSome, option_map}
use Rattle.smith_syntax.specs.Entries.{result_type}
use Rattle.smith_change.specs.Members.{optional_changed, optional_places}
use Rattle.smith_change.proofs.RowsOf.{same_option}
use Rattle.smith_change.proofs.Seeking.{found_both, moved_both}
use Rattle.smith_change.proofs.members.change_result.Goals as goal

pub returns-clause-ty : goal.returns-clause-ty
returns-clause-ty c =
    let a = c.args.change.alternative in
    let ok = c.args.ty.now.ok_ty in
    let err = c.args.ty.now.err_ty in
    sym (ap (option_map (λ p. result_type p.0 p.1)) (sym c.zip.ensures ∙ c.in_ok-ok_ty.was {u = tt}))
    ∙ found_both (λ v. v) (λ v. v) (λ p. result_type p.0 p.1) result_type (λ x y. refl) (optional_places ok) (optional_places err)
    (λ j. optional_changed a j ok) (λ j. optional_changed a j err) ok err c.args.search.now c.change_optional-ok_ty.new.search
    c.change_optional-ok_ty.result c.change_optional-err_ty.result (sym (same_option c.change_optional-ok_ty.result) ∙ c.change_optional-ok_ty.ensures.value)
    c.change_optional-ok_ty.ensures.moved (sym (same_option c.change_optional-err_ty.result) ∙ c.change_optional-err_ty.ensures.value)

pub returns-clause-moved : goal.returns-clause-moved
returns-clause-moved c = λ is.
    let found = sym c.zip.ensures ∙ c.in_ok-ok_ty.was {u = tt} in
    moved_both (optional_places c.args.ty.now.ok_ty) (optional_places c.args.ty.now.err_ty) c.args.search.now c.change_optional-ok_ty.new.search
    c.change_optional-err_ty.new.search c.change_optional-ok_ty.result c.change_optional-err_ty.result c.change_optional-ok_ty.ensures.moved
    c.change_optional-err_ty.ensures.moved (subst IsSome (sym found) refl)
