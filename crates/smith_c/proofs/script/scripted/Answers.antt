use Rattle.std.proofs.Common.{arith, ◌≡◌, ◌∙◌, sym, ap, subst}
use Rattle.smith_format.specs.declared.config.Config.{Config}
use Rattle.smith_format.specs.Consistency.{IsConsistent}
use Rattle.smith_tree.specs.Script.{Within}
use Rattle.smith_c.specs.Scripts.{Withholds, offset_of, status_of}
use Rattle.smith_c.proofs.Once.{limits_once}
use Rattle.smith_c.proofs.Scripts.{withheld}
use Rattle.smith_c.proofs.script.scripted.Goals as goal

pub returns-in-Err-clause-withholds : goal.returns-in-Err-clause-withholds
returns-in-Err-clause-withholds c =
    let why = withheld c.args.limits.now c.args.bytes.now c.in-Some.config c.in-Some.ensures.told c.in-Err.error c.in-Err.ensures.limits
    c.in-Err.ensures.no_input c.in-Err.ensures.why in
    subst (λ o. Withholds c.args.limits.now c.args.bytes.now c.refusal_of.result.status o) (sym c.refusal_of.ensures.offset)
    (subst (λ s. Withholds c.args.limits.now c.args.bytes.now s (offset_of c.in-Err.error)) (sym c.refusal_of.ensures.status) why)

pub returns-in-Err-clause-plans : goal.returns-in-Err-clause-plans
returns-in-Err-clause-plans c config plan told consistent within spells =
    let own : Config = c.in-Some.config in
    let same : config ≡ own = limits_once config own (sym told ∙ c.in-Some.ensures.told) in
    let memory = c.in-Err.ensures.plans plan spells (subst IsConsistent same consistent) (subst (λ k. Within k plan) same within) in
    c.refusal_of.ensures.status ∙ ap status_of memory

pub returns-in-Ok-clause-limits : goal.returns-in-Ok-clause-limits
returns-in-Ok-clause-limits c config told bad =
    let same : config ≡ c.in-Some.config = limits_once config c.in-Some.config (sym told ∙ c.in-Some.ensures.told) in
    let fits : ¬ IsConsistent c.in-Some.config = subst (λ k. ¬ IsConsistent k) same bad in
    grind (arith, fits)
