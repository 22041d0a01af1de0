use Rattle.std.proofs.Common.{subst}
use Rattle.std.specs.Prelude.{OnOk}
use Rattle.std.proofs.lemmas.Result.{on_ok_weaker}
use Rattle.smith_scopes.specs.Rows.{Notes}
use Rattle.smith_scopes.proofs.Rows.{notes_function}
use Rattle.smith_scopes.proofs.scopes.equals.note_type.Goals as goal

pub returns-in-Func-clause-ok : goal.returns-in-Func-clause-ok
returns-in-Func-clause-ok c =
    on_ok_weaker c.note.result (notes_function c.args.rows.now c.note.new.rows c.args.ty.now c.args.index c.in-Func.func c.in-Func.is)
    (subst (λ s. OnOk c.note.result (Notes s c.args.index c.args.rows.now c.note.new.rows)) c.deref.ensures c.note.ensures.ok)
