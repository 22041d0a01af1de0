use Rattle.toml.specs.View.{table_view}
use Rattle.smith_format.specs.Consistency.{IsDefault}
use Rattle.smith_format.specs.declared.config.Config.{Config}
use Rattle.smith_limits.specs.Limits.{IsRefused}
use Rattle.smith_limits.specs.declared.limits.Fault.{Fault}
use Rattle.smith_limits.proofs.Sets.{refused}
use Rattle.smith_limits.proofs.limits.limits_of.Goals as goal

pub returns-in_err-check_keys-clause-refused : goal.returns-in_err-check_keys-clause-refused
returns-in_err-check_keys-clause-refused c =
    let P : Fault → Type 0 = λ e. (default : Config) → IsDefault default → IsRefused (table_view c.args.table.now) default e in
    refused _ _ P c.from_residual.ensures.1 (λ default _. c.in_err-check_keys.ensures.refused default)

pub returns-in_err-check_values-clause-refused : goal.returns-in_err-check_values-clause-refused
returns-in_err-check_values-clause-refused c =
    let P : Fault → Type 0 = λ e. (default : Config) → IsDefault default → IsRefused (table_view c.args.table.now) default e in
    refused _ _ P c.from_residual-in_err-check_values.ensures.1 (λ default _. c.in_err-check_values.ensures.refused default)
