use Rattle.std.proofs.Common.{◌≡◌, ◌∙◌, ap, sym, subst, Some, false, option_map}
use Rattle.toml.specs.View.{table_view, view}
use Rattle.smith_limits.specs.Limits.{is_no_number, most_of, value_at}
use Rattle.smith_limits.proofs.Sets.{integer_right, number_right}
use Rattle.smith_limits.proofs.keys.number.Goals as goal

pub unwrap-requires : goal.unwrap-requires
unwrap-requires c =
    let members = table_view c.args.table.now in
    let at : value_at members c.args.key ≡ Some (view c.in-Some.value.now) =
    sym c.value_at.ensures ∙ ap (option_map (λ value. view value.now)) c.in-Some.is in
    let right = subst (λ o. is_no_number (most_of c.args.key) o ≡ false) at (number_right members c.args.key c.requires.right c.requires.number) in
    integer_right c.integer_of.result _ _ c.integer_of.ensures.refused
    (subst (λ most. is_no_number most (Some (view c.in-Some.value.now)) ≡ false) (sym c.most.ensures) right)
