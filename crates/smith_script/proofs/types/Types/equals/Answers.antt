use Rattle.std.proofs.Common.{◌≡◌, ap, ◌∙◌, rules}
use Rattle.std.specs.Prelude.{slice_get}
use Rattle.smith_script.specs.Equals.{row_at}
use Rattle.smith_script.proofs.types.Types.equals.Goals as goal

pub returns : goal.returns
returns c =
    let at : c.number_at.result ≡ slice_get c.self.inside.row_of.items c.args.index = search rules in
    let found : c.row_at.result.now ≡ row_at c.self.inside.rows.items c.number_at.result = search rules in
    rw (← c.self.view_is) (λ s e. found ∙ (ap (row_at c.self.inside.rows.items) (at ∙ c.self.invariant.known c.args.index s e) ∙ c.self.invariant.row s))
