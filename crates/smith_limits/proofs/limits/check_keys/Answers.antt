use Rattle.std.proofs.Common.{◌≡◌, ◌∙◌, ap, sym, Some, None, option_map, string_bytes}
use Rattle.toml.specs.View.{table_view}
use Rattle.smith_limits.specs.Limits.{unknown_in}
use Rattle.smith_limits.proofs.Sets.{unknown_in-entries}
use Rattle.smith_limits.proofs.limits.check_keys.Goals as goal

pub returns-in-None-clause-known : goal.returns-in-None-clause-known
returns-in-None-clause-known c =
    unknown_in-entries c.args.table.now.entries
    ∙ ap (option_map string_bytes) (sym c.unknown_key.ensures ∙ ap (option_map (λ key. key.now)) c.in-None.is)

pub returns-in-Ok-clause-refused : goal.returns-in-Ok-clause-refused
returns-in-Ok-clause-refused c default =
    unknown_in-entries c.args.table.now.entries
    ∙ ap (option_map string_bytes) (sym c.unknown_key.ensures ∙ ap (option_map (λ key. key.now)) c.in-Some.is)
    ∙ ap Some (sym (c.in-Ok.ensures.ok ∙ c.as_str.ensures.value))

pub returns-in-Err-clause-refused : goal.returns-in-Err-clause-refused
returns-in-Err-clause-refused c default none =
    let some : unknown_in (table_view c.args.table.now) ≡ Some (string_bytes c.in-Some.key.now) =
    unknown_in-entries c.args.table.now.entries
    ∙ ap (option_map string_bytes) (sym c.unknown_key.ensures ∙ ap (option_map (λ key. key.now)) c.in-Some.is) in
    let apart : Some (string_bytes c.in-Some.key.now) ≡ None = sym some ∙ none in
    absurd (cc apart)
