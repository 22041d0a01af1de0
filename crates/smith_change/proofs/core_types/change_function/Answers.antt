use Rattle.std.proofs.Common.{◌≡◌, Some, ap, map, refl, subst, sym, ◌∙◌}
use Rattle.std.proofs.lemmas.List.{map-id}
use Rattle.std.specs.Option.{IsSome, option_map}
use Rattle.smith_read.specs.Search.{past, sought}
use Rattle.smith_change.specs.CoreTypes.{core_values_changed, core_values_places, results_changed, results_places}
use Rattle.smith_change.proofs.Seeking.{found_both, moved_both}
use Rattle.smith_change.proofs.core_types.change_function.Goals as goal

pub returns-in_default-clause-ty : goal.returns-in_default-clause-ty
returns-in_default-clause-ty c =
    let s = c.args.search.now in
    let a = c.args.change.alternative in
    let ps = c.args.ty.now.params.items in
    let rs = c.args.ty.now.results.items in
    let params = map-id c.deref.result.now ∙ c.deref.ensures.value in
    let told = c.in_ok-params.ensures {u = tt} in
    let first = subst
    (λ vs. option_map (λ v. map (λ x. x) v.items) c.in_ok-params.params ≡ sought (core_values_places vs) s (λ k. core_values_changed a k vs) vs)
    params told.entries in
    let moved = subst (λ vs. IsSome c.in_ok-params.params → c.change_row.new.search ≡ past (core_values_places vs) s) params told.moved in
    let second = subst
    (λ vs. option_map (λ v. v.items) c.in_ok-results.results ≡ sought (results_places vs) c.change_row.new.search (λ k. results_changed a k vs) vs)
    c.deref-2.ensures.value (c.in_ok-results.ensures {u = tt}).results in
    sym (ap (option_map (λ p. (map (λ x. x) p.0.items, p.1.items))) (sym c.zip.ensures ∙ c.in_default.is))
    ∙ found_both (λ v. map (λ x. x) v.items) (λ v. v.items) (λ p. (map (λ x. x) p.0.items, p.1.items)) (λ x y. (x, y)) (λ x y. refl) (core_values_places ps)
    (results_places rs) (λ k. core_values_changed a k ps) (λ k. results_changed a k rs) ps rs s c.change_row.new.search c.in_ok-params.params
    c.in_ok-results.results first moved second

pub returns-in_default-clause-moved : goal.returns-in_default-clause-moved
returns-in_default-clause-moved c = λ is. absurd cc

pub returns-clause-ty : goal.returns-clause-ty
returns-clause-ty c =
    let s = c.args.search.now in
    let a = c.args.change.alternative in
    let ps = c.args.ty.now.params.items in
    let rs = c.args.ty.now.results.items in
    let params = map-id c.deref.result.now ∙ c.deref.ensures.value in
    let told = c.in_ok-params.ensures {u = tt} in
    let first = subst
    (λ vs. option_map (λ v. map (λ x. x) v.items) c.in_ok-params.params ≡ sought (core_values_places vs) s (λ k. core_values_changed a k vs) vs)
    params told.entries in
    let moved = subst (λ vs. IsSome c.in_ok-params.params → c.change_row.new.search ≡ past (core_values_places vs) s) params told.moved in
    let second = subst
    (λ vs. option_map (λ v. v.items) c.in_ok-results.results ≡ sought (results_places vs) c.change_row.new.search (λ k. results_changed a k vs) vs)
    c.deref-2.ensures.value (c.in_ok-results.ensures {u = tt}).results in
    ap (λ vs. Some (vs, c.in-Some.results.items)) (sym (map-id c.in-Some.params.items))
    ∙ sym (ap (option_map (λ p. (map (λ x. x) p.0.items, p.1.items))) (sym c.zip.ensures ∙ c.in-Some.is))
    ∙ found_both (λ v. map (λ x. x) v.items) (λ v. v.items) (λ p. (map (λ x. x) p.0.items, p.1.items)) (λ x y. (x, y)) (λ x y. refl) (core_values_places ps)
    (results_places rs) (λ k. core_values_changed a k ps) (λ k. results_changed a k rs) ps rs s c.change_row.new.search c.in_ok-params.params
    c.in_ok-results.results first moved second

pub returns-clause-moved : goal.returns-clause-moved
returns-clause-moved c = λ is.
    let s = c.args.search.now in
    let ps = c.args.ty.now.params.items in
    let rs = c.args.ty.now.results.items in
    let params = map-id c.deref.result.now ∙ c.deref.ensures.value in
    let moved = subst (λ vs. IsSome c.in_ok-params.params → c.change_row.new.search ≡ past (core_values_places vs) s) params
    (c.in_ok-params.ensures {u = tt}).moved in
    let more = subst (λ vs. IsSome c.in_ok-results.results → c.change_results.new.search ≡ past (results_places vs) c.change_row.new.search)
    c.deref-2.ensures.value (c.in_ok-results.ensures {u = tt}).moved in
    moved_both (core_values_places ps) (results_places rs) s c.change_row.new.search c.change_results.new.search c.in_ok-params.params c.in_ok-results.results
    moved more (subst IsSome (sym (sym c.zip.ensures ∙ c.in-Some.is)) refl)
