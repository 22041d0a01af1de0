use Rattle.std.proofs.Common.{◌≡◌, ◌++◌, refl, ap, ◌∙◌, string_bytes}
use Rattle.std.specs.Prelude.{codes}
use Rattle.smith_input.proofs.NameSets.{gains, unique_in_set}
use Rattle.smith_input.proofs.names.unique_url.Goals as goal

pub returns-clause-read : goal.returns-clause-read
returns-clause-read c =
    let r = c.in_ok-path.ensures.read in
    let host : string_bytes c.push_str.new.self ≡ codes "https://example.com/" = c.in_ok-push_str.ensures.bytes
    ∙ ap (λ front. front ++ codes "https://example.com/") c.in_ok-url.ensures.bytes in
    let url = c.in_ok-push_str-2.ensures.bytes ∙ (λ i. host i ++ c.as_str.ensures.value i) in
    let unique = unique_in_set c.args.names.now _ _ r.unique in (
      r.text,
      string_bytes c.in_ok-path.path,
      url,
      r.reads,
      unique,
      c.in_ok-path.ensures.kebab,
      gains c.in_ok-path.path refl unique.is_new c.in_ok-insert.ensures.updates c.in_ok-insert.ensures.added c.in_ok-insert.ensures.len,
    )
