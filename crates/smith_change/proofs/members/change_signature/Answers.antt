use Rattle.std.proofs.Common.{◌≡◌, ap, map, refl, rules, subst, sym, ◌∙◌}
use Rattle.std.specs.Option.{IsSome, option_map}
use Rattle.smith_syntax.specs.Signature.{named}
use Rattle.smith_change.specs.Members.{fields_changed, fields_places, most_params, new_field, optional_changed, optional_places}
use Rattle.smith_read.specs.Search.{past, sought}
use Rattle.smith_change.proofs.Signatures.{signature_found, signature_moved, signature_of}
use Rattle.smith_change.proofs.members.change_signature.Goals as goal

pub returns-in-None-clause-ty : goal.returns-in-None-clause-ty
returns-in-None-clause-ty c =
    let a = c.args.change.alternative in
    let s = c.args.search.now in
    let told = c.in_ok-params.ensures {u = tt} in
    let fields : map named c.deref.result.now ≡ c.args.ty.now.params = search rules in
    let res : c.ty.inside.result ≡ c.args.ty.now.result = search rules in
    let first = subst
    (λ fs. option_map (λ v. map named v.items) c.in_ok-params.params ≡ sought (fields_places fs) s (λ k. fields_changed most_params a k fs) fs)
    fields (told.entries new_field (λ n. refl)) in
    let moved = subst (λ fs. IsSome c.in_ok-params.params → c.change_members.new.search ≡ past (fields_places fs) s) fields told.moved in
    let second = subst
    (λ v. c.change_optional-result.result ≡ sought (optional_places v) c.change_members.new.search (λ k. optional_changed a k v) v)
    res c.change_optional-result.ensures.value in
    sym (ap (option_map (λ p. signature_of (map named p.0.items) p.1)) (sym c.zip.ensures ∙ c.in-None.is))
    ∙ signature_found (λ v. map named v.items) c.args.ty.now a s c.change_members.new.search c.in_ok-params.params
    c.change_optional-result.result moved first second

pub returns-in-Some-clause-ty : goal.returns-in-Some-clause-ty
returns-in-Some-clause-ty c =
    let a = c.args.change.alternative in
    let s = c.args.search.now in
    let told = c.in_ok-params.ensures {u = tt} in
    let fields : map named c.deref.result.now ≡ c.args.ty.now.params = search rules in
    let res : c.ty.inside.result ≡ c.args.ty.now.result = search rules in
    let first = subst
    (λ fs. option_map (λ v. map named v.items) c.in_ok-params.params ≡ sought (fields_places fs) s (λ k. fields_changed most_params a k fs) fs)
    fields (told.entries new_field (λ n. refl)) in
    let moved = subst (λ fs. IsSome c.in_ok-params.params → c.change_members.new.search ≡ past (fields_places fs) s) fields told.moved in
    let second = subst
    (λ v. c.change_optional-result.result ≡ sought (optional_places v) c.change_members.new.search (λ k. optional_changed a k v) v)
    res c.change_optional-result.ensures.value in
    sym (ap (option_map (λ p. signature_of (map named p.0.items) p.1)) (sym c.zip.ensures ∙ c.in-Some.is))
    ∙ signature_found (λ v. map named v.items) c.args.ty.now a s c.change_members.new.search c.in_ok-params.params
    c.change_optional-result.result moved first second

pub returns-in-Some-clause-moved : goal.returns-in-Some-clause-moved
returns-in-Some-clause-moved c = λ is.
    let s = c.args.search.now in
    let told = c.in_ok-params.ensures {u = tt} in
    let fields : map named c.deref.result.now ≡ c.args.ty.now.params = search rules in
    let res : c.ty.inside.result ≡ c.args.ty.now.result = search rules in
    let moved = subst (λ fs. IsSome c.in_ok-params.params → c.change_members.new.search ≡ past (fields_places fs) s) fields told.moved in
    let more = subst
    (λ v. IsSome c.change_optional-result.result → c.change_optional-result.new.search ≡ past (optional_places v) c.change_members.new.search)
    res c.change_optional-result.ensures.moved in
    signature_moved (λ v. map named v.items) c.args.ty.now c.args.change.alternative s c.change_members.new.search c.in_ok-params.params
    c.change_optional-result.result moved c.change_optional-result.new.search more
    (subst IsSome (sym (sym c.zip.ensures ∙ c.in-Some.is)) refl)
