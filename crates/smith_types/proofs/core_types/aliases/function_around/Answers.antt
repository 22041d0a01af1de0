use Rattle.std.proofs.Common.{ap, sym, ◌∙◌, Some}
use Rattle.smith_format.specs.Shown.{shown_func}
use Rattle.smith_syntax.specs.ModuleTypes.{func_in}
use Rattle.smith_syntax.specs.Shown.{shown_core}
use Rattle.smith_types.proofs.MakingCore.{around_at, no_module, shown_at}
use Rattle.smith_types.proofs.core_types.aliases.function_around.Goals as goal
use Rattle.std.proofs.lemmas.Option.{same_Some}

pub get_core-requires-clause-entry : goal.get_core-requires-clause-entry
get_core-requires-clause-entry c = (around_at c.args.scopes.now c.args.rank c.kind_at-i.result c.kind_at-i.ensures.value).within

pub unreachable-requires : goal.unreachable-requires
unreachable-requires c =
    let a = around_at c.args.scopes.now c.args.rank c.kind_at-i.result c.kind_at-i.ensures.value in
    let s = shown_at c.args.scopes.now c.kind_at-i.result c.get_core.result.now.value c.get_core.ensures.value in
    no_module (same_Some _ _ (sym s ∙ a.at)) (ap shown_core (sym c.deref.ensures ∙ c.in-Module.is))

pub returns-clause-named : goal.returns-clause-named
returns-clause-named c =
    let s = shown_at c.args.scopes.now c.kind_at-i.result c.get_core.result.now.value c.get_core.ensures.value in
    ap func_in (s ∙ ap (λ t. Some (shown_core t)) (sym c.deref.ensures ∙ c.in-Func.is))
    ∙ ap (λ t. Some (shown_func t)) (sym c.in_ok-clone-in-Func.ensures.cases)
