use Rattle.std.proofs.Common.{refl, subst}
use Rattle.smith_scopes.specs.Rows.{NotesType}
use Rattle.smith_scopes.proofs.Rows.{first_next}
use Rattle.smith_scopes.proofs.scopes.equals.Equals.note_rest.Goals as goal

pub loop-index-preserved : goal.loop-index-preserved
loop-index-preserved c =
    let notes = subst (λ ty. NotesType ty c.loop-index.index c.loop-index.self.rows c.note_type.new.rows) c.deref.ensures c.in_ok-note_type.ensures.ok in
    first_next c.args.types.now c.loop-index.self _ c.loop-index.index c.index-types-index.result c.loop-index-test.true
    c.index-types-index.is c.loop-index.invariant refl notes
