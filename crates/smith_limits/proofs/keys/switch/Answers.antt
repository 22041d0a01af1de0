use Rattle.std.proofs.Common.{◌≡◌, ◌∙◌, ap, sym, subst, Some, false, not, option_map}
use Rattle.std.specs.Option.{is_some}
use Rattle.toml.specs.View.{table_view, view}
use Rattle.smith_limits.specs.Limits.{is_no_switch, value_at}
use Rattle.smith_limits.proofs.Sets.{some_right, switch_right}
use Rattle.smith_limits.proofs.keys.switch.Goals as goal

pub unwrap-requires : goal.unwrap-requires
unwrap-requires c =
    let members = table_view c.args.table.now in
    let at : value_at members c.args.key ≡ Some (view c.in-Some.value.now) =
    sym c.value_at.ensures ∙ ap (option_map (λ value. view value.now)) c.in-Some.is in
    let right = subst (λ o. is_no_switch o ≡ false) at (switch_right members c.args.key c.requires.right c.requires.switch) in
    some_right c.as_bool.result (subst (λ o. not (is_some o) ≡ false) (sym c.as_bool.ensures) right)
