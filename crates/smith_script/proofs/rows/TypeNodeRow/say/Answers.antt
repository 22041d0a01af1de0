use Rattle.std.proofs.Common.{◌≡◌, ap, subst, sym, ◌∙◌}
use Rattle.std.specs.Prelude.{OnOk}
use Rattle.smith_scopes.specs.NodeScopes.{outer_marked_in, own_marked_in}
use Rattle.smith_read.specs.TypeNodes.{shown_type_node}
use Rattle.smith_scopes.proofs.Marking.{marked_alike}
use Rattle.smith_syntax.specs.Marked.{Marked, mark, with_marked}
use Rattle.smith_script.specs.Preceding.{after_type, preceding}
use Rattle.smith_script.proofs.rows.TypeNodeRow.say.Goals as goal

pub returns-clause-added : goal.returns-clause-added
returns-clause-added c =
    let own = own_marked_in c.args.scopes.now in
    let outer = outer_marked_in c.args.scopes.now in
    let e = shown_type_node c.args.self.now in
    let m = c.in_ok-typed.typed.mark in
    let grown = (c.in_ok-add_marked.ensures {u = tt}).own
    ∙ (ap (λ (o : Marked). with_marked o e m) c.in_ok-typed.ensures.own ∙ marked_alike own e m (mark e own outer) c.in_ok-typed.ensures.mark) in
    subst
    (λ (o : Marked). OnOk c.add_type.result (preceding o c.add_type.new.self ≡ after_type outer (preceding own c.args.here.now) e))
    (sym grown) (c.add_type.ensures.added own outer)
