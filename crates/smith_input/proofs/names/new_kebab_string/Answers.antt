use Rattle.std.proofs.lemmas.Result.{IfOk-weaker}
use Rattle.smith_input.proofs.Kebab.{kebab_is_read}
use Rattle.smith_input.proofs.names.new_kebab_string.Goals as goal

pub returns-clause-kebab : goal.returns-clause-kebab
returns-clause-kebab g c = IfOk-weaker c.made_unique.result _ _ (λ name k. k (kebab_is_read c.in_ok-kebab_string.ensures.read)) c.made_unique.ensures.kebab
