use Rattle.std.proofs.Common.{◌≡◌, ◌∙◌, ◌++◌, sym, ap, subst, length, IfErr}
use Rattle.std.proofs.lemmas.Result.{err_from_is_err_and}
use Rattle.smith_format.specs.declared.config.Config.{Config}
use Rattle.smith_format.specs.Consistency.{IsConsistent}
use Rattle.smith_input.specs.declared.error.Error.TheVariants.{OutOfMemory}
use Rattle.smith_tree.specs.Script.{Within, script}
use Rattle.smith_c.specs.declared.status.Status.{Status}
use Rattle.smith_c.specs.declared.status.Status.TheVariants.{Refused}
use Rattle.smith_c.proofs.Once.{limits_once}
use Rattle.smith_c.proofs.make.make.Goals as goal

pub returns-in_err-generated-clause-answers : goal.returns-in_err-generated-clause-answers
returns-in_err-generated-clause-answers c config plan rest told consistent within begins =
    let own : Config = c.in-Some.config in
    let same : config ≡ own = limits_once config own (sym told ∙ c.in-Some.ensures.told) in
    let read = c.new-u.ensures ∙ begins ∙ ap (λ k. script k plan ++ rest) same in
    let memory = c.in_err-generated.ensures.answers plan rest (subst IsConsistent same consistent) (subst (λ k. Within k plan) same within) read in
    let gives = err_from_is_err_and _ c.from_residual.ensures.1 in
    subst (λ r. IfErr r (λ (s : Status). s ≡ Refused OutOfMemory)) (sym gives.1) (gives.2 ∙ ap Refused memory)

pub returns-clause-reach : goal.returns-clause-reach
returns-clause-reach c config plan rest told within begins =
    let own : Config = c.in-Some.config in
    let same : config ≡ own = limits_once config own (sym told ∙ c.in-Some.ensures.told) in
    let read = c.new-u.ensures ∙ begins ∙ ap (λ k. script k plan ++ rest) same in
    let got = c.in_ok-generated.ensures.reach plan rest (subst (λ k. Within k plan) same within) read in
    (got.1, ap length (c.left.ensures ∙ got.2))
