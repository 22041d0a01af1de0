use Rattle.std.proofs.Common.{◌≡◌, subst, sym}
use Rattle.std.specs.Prelude.{OnOk}
use Rattle.smith_read.specs.PartNodes.{shown_import_node}
use Rattle.smith_scopes.specs.NodeScopes.{outer_marked_in, own_marked_in}
use Rattle.smith_syntax.specs.Marked.{Marked}
use Rattle.smith_script.specs.Preceding.{after_import, preceding}
use Rattle.smith_script_types.proofs.Saying.{gives_up, unsaid_right}
use Rattle.smith_script.proofs.rows.ImportNodeRow.say.Goals as goal

pub returns-in_err-say_extern-clause-said : goal.returns-in_err-say_extern-clause-said
returns-in_err-say_extern-clause-said c =
    gives_up _ _ _ _ c.from_residual-in_err-say_extern.ensures.1 (unsaid_right _ (rw c.deref.ensures at (c.in_err-say_extern.ensures {u = tt})))

pub returns-clause-added : goal.returns-clause-added
returns-clause-added c =
    let own = own_marked_in c.args.scopes.now in
    let outer = outer_marked_in c.args.scopes.now in
    subst
    (λ (o : Marked). OnOk c.add_import.result (preceding o c.add_import.new.self
    ≡ after_import outer (preceding own c.args.here.now) (shown_import_node c.args.self.now)))
    (sym c.note_import.ensures.own) (c.add_import.ensures.added own outer)
