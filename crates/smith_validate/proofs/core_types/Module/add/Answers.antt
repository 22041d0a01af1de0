use Rattle.std.proofs.Common.{ap, sym, ◌∙◌, ◌++◌, append-nil}
use Rattle.std.specs.Option.{option_to_list}
use Rattle.smith_syntax.specs.ModuleTypes.{aliased}
use Rattle.smith_syntax.specs.OwnSizes.{sizes_in}
use Rattle.smith_syntax.proofs.AliasSizes.{alias_added}
use Rattle.smith_validate.specs.Modules.{entries_in}
use Rattle.smith_validate.proofs.Judging.{on_by}
use Rattle.smith_validate.proofs.core_types.Module.add.Goals as goal

pub returns-in-OuterAlias-clause-own : goal.returns-in-OuterAlias-clause-own
returns-in-OuterAlias-clause-own c = λ own fs k o.
    rw (c.in-OuterAlias.is)
    (on_by c.push-in-OuterAlias.result
    (λ p. p
    ∙ (ap (λ ys. ys ++ option_to_list c.aliased-size.result) o
    ∙ (ap (λ s. sizes_in fs ++ option_to_list s) (c.aliased-size.ensures own fs k o)
    ∙ (alias_added fs (aliased (entries_in own) fs c.in-OuterAlias.count c.in-OuterAlias.index)
    ∙ ap (λ gs. sizes_in (fs ++ gs)) (sym (append-nil (option_to_list (aliased (entries_in own) fs c.in-OuterAlias.count c.in-OuterAlias.index))))))))
    c.push-in-OuterAlias.ensures.own)
