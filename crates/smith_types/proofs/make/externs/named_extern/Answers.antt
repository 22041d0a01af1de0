use Rattle.std.proofs.Common.{sym, subst, string_bytes}
use Rattle.smith_input.specs.Names.{Holds}
use Rattle.smith_input.proofs.NewNames.{holds_more}
use Rattle.smith_syntax.specs.Shown.{shown_url}
use Rattle.smith_types.specs.Declarations.{NamedExtern}
use Rattle.smith_types.proofs.Externs.{names_more, url_names_more, holds_again, holds_same}
use Rattle.smith_types.proofs.make.externs.named_extern.Goals as goal

pub returns-in-Ok-clause-names : goal.returns-in-Ok-clause-names
returns-in-Ok-clause-names c so_far h =
    let x : NamedExtern = (string_bytes c.in_ok-name.name, shown_url c.in-Ok.url) in (
      subst (Holds c.unique_kebab_string.new.names) (sym (names_more so_far x)) (holds_more h.0 c.in_ok-name.ensures.gained),
      subst (Holds c.read_url.new.urls) (sym (url_names_more so_far x)) (c.in-Ok.ensures.names _ h.1),
    )

pub returns-in-Err-clause-refused : goal.returns-in-Err-clause-refused
returns-in-Err-clause-refused c so_far h = (
  holds_again h.0 c.in_ok-name.ensures.read.2.is_new c.in_ok-name.ensures.gained c.as_str.ensures.value c.remove.ensures.updates c.remove.ensures.test
      c.remove.ensures.len,
  holds_same h.1 c.in-Err.ensures.refused,
)
