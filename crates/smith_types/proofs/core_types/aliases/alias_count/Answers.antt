use Rattle.std.proofs.Common.{arith}
use Rattle.std.proofs.lemmas.List.{length-map}
use Rattle.smith_format.specs.Shown.{shown_func}
use Rattle.smith_types.specs.MakingCore.{shown_funcs}
use Rattle.smith_syntax.specs.Places.{own_of}
use Rattle.smith_scopes.specs.Scopes.{inward}
use Rattle.smith_types.proofs.MakingCore.{choices_count}
use Rattle.smith_types.proofs.core_types.aliases.alias_count.Goals as goal

pub returns : goal.returns
returns c =
    let own = c.args.declared.now.own.items in
    omega (
      arith,
      c.kind_len.ensures.count,
      c.len.ensures,
      length-map own (λ t. shown_func t.value),
      choices_count (own_of (inward c.args.scopes.now)) (shown_funcs own),
    )
