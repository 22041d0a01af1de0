use Rattle.std.proofs.Common.{length, map, sym, ap, ◌∙◌}
use Rattle.std.proofs.lemmas.List.{length-map}
use Rattle.smith_scope.specs.Kept.{offered_places}
use Rattle.smith_scope.specs.Positions.{plain_marked}
use Rattle.smith_scope.proofs.Offered.{all_offered, length-every_place}
use Rattle.smith_scope.proofs.scope.Scope.offered_len.Goals as goal

pub returns-in-None : goal.returns-in-None
returns-in-None g c =
    let s = c.args.self.now in
    let plain = g.T.Tree.TypeTree.plain in
    let core_plain = g.C.Tree.CoreTree.plain in
    let all = c.in-None.ensures.places in
    c.types_len.ensures.many ∙ sym (
    ap (λ o. length (offered_places o (plain_marked plain core_plain s))) all.0
    ∙ (ap length (all_offered plain core_plain s all.1)
    ∙ (length-every_place 0 (map plain s.types) ∙ length-map s.types plain))
    )
