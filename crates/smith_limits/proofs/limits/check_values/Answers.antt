use Rattle.std.proofs.Common.{◌≡◌, ◌∙◌, ap, sym, false}
use Rattle.std.proofs.lemmas.Bool.{false≢true}
use Rattle.std.specs.Option.{is_some}
use Rattle.toml.specs.View.{table_view}
use Rattle.smith_limits.specs.Limits.{all_keys, is_wrong}
use Rattle.smith_limits.proofs.Sets.{found_meets}
use Rattle.smith_limits.proofs.limits.check_values.Goals as goal

-- What was found to be wrong is not found to be right.
pub returns-in-None-clause-right : goal.returns-in-None-clause-right
returns-in-None-clause-right c =
    let members = table_view c.args.table.now in
    let wrong = found_meets (is_wrong members) all_keys c.in-Some.key (sym c.first_wrong.ensures ∙ c.in-Some.is) in
    let right : false ≡ is_wrong members c.in-Some.key = ap is_some (sym c.in-None.is) ∙ c.wrong_at.ensures.whether in
    absurd (false≢true (right ∙ wrong))
