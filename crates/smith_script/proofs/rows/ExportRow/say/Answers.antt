use Rattle.std.proofs.Common.{◌≡◌, subst, sym}
use Rattle.std.specs.Prelude.{OnOk}
use Rattle.smith_tree.specs.Shown.{shown_export}
use Rattle.smith_scopes.specs.NodeScopes.{outer_marked_in, own_marked_in}
use Rattle.smith_syntax.specs.Marked.{Marked}
use Rattle.smith_script.specs.Preceding.{after_export, preceding}
use Rattle.smith_script.proofs.rows.ExportRow.say.Goals as goal

pub returns-clause-added : goal.returns-clause-added
returns-clause-added c =
    let own = own_marked_in c.args.scopes.now in
    let outer = outer_marked_in c.args.scopes.now in
    subst
    (λ (o : Marked). OnOk c.add_export.result (preceding o c.add_export.new.self
    ≡ after_export outer (preceding own c.args.here.now) (shown_export c.args.self.now)))
    (sym c.note_export.ensures.own) (c.add_export.ensures.added own outer)
