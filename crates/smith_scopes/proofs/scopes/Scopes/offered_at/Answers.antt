use Rattle.std.proofs.Common.{◌<◌, ◌+◌, ◌≡◌, Some, get_or, sym, ap, ◌∙◌, length, map, arith}
use Rattle.std.proofs.lemmas.List.{length-map}
use Rattle.std.specs.Prelude.{slice_get}
use Rattle.smith_syntax.specs.Shown.{shown_core, shown_type}
use Rattle.smith_scope.specs.Kept.{offered_places}
use Rattle.smith_scopes.specs.Scopes.{shown_marked}
use Rattle.smith_scopes.proofs.Chosen.{found_in_row}
use Rattle.smith_scope.proofs.Offered.{all_offered, every_place_at, length-offered, offered_within}
use Rattle.smith_scopes.proofs.scopes.Scopes.offered_at.Goals as goal

pub overflow_cast-result : goal.overflow_cast-result
overflow_cast-result c =
    let row = c.in-Some.row.now in
    let found = found_in_row row _ (c.in-Some.ensures.places ∙ ap (offered_places c.args.offer) c.last.ensures.marked) c.args.k c.requires in
    let small =
    offered_within shown_type shown_core c.last.result.now c.args.offer c.args.k (get_or row c.args.k 0)
    (ap (λ s. slice_get (offered_places c.args.offer s) c.args.k) c.last.ensures.marked ∙ found) in
    omega (arith, small, c.last.ensures.few)

pub overflow_cast-result-in-None : goal.overflow_cast-result-in-None
overflow_cast-result-in-None c =
    let own = ap (λ s. length (offered_places c.args.offer s)) c.last.ensures.marked in
    omega (arith, c.requires, own, length-offered shown_type shown_core c.last.result.now c.args.offer, c.last.ensures.few)

pub returns-in-Some : goal.returns-in-Some
returns-in-Some c =
    found_in_row _ _ (c.in-Some.ensures.places ∙ ap (offered_places c.args.offer) c.last.ensures.marked) c.args.k c.requires

pub returns-in-None : goal.returns-in-None
returns-in-None c =
    let last = c.last.result.now in
    let all = c.in-None.ensures.places in
    let own = ap (λ s. length (offered_places c.args.offer s)) c.last.ensures.marked in
    let within : c.args.k < length (map shown_type last.types) =
    omega (arith, c.requires, own, length-offered shown_type shown_core last c.args.offer, length-map last.types shown_type) in
    ap (λ s. slice_get (offered_places c.args.offer s) c.args.k) (sym c.last.ensures.marked)
    ∙ (ap (λ o. slice_get (offered_places o (shown_marked last)) c.args.k) all.0
    ∙ (ap (λ row. slice_get row c.args.k) (all_offered shown_type shown_core last all.1)
    ∙ (every_place_at 0 (map shown_type last.types) c.args.k within ∙ ap Some (let z : 0 + c.args.k ≡ c.args.k = omega arith in z))))
