use Rattle.std.proofs.Common.{List, ap, subst, sym, ◌++◌, ◌≡◌, ◌∙◌}
use Rattle.smith_format.specs.Consistency.{IsDefault}
use Rattle.smith_format.specs.declared.config.Config.{Config}
use Rattle.smith_tree.specs.Limits.{Limits}
use Rattle.smith_tree.specs.Script.{Within, script}
use Rattle.smith_component.proofs.Finishing.{ok_by}
use Rattle.smith_component.proofs.component.Component.arbitrary.Goals as goal

pub returns-clause-limits : goal.returns-clause-limits
returns-clause-limits c =
    let is : IsDefault c.default.result = c.default.ensures in
    ok_by c.new.result (λ t made config standard. subst (λ k. Limits k t) (is ∙ sym standard) made.image.limits) c.new.ensures.made

pub returns-clause-reach : goal.returns-clause-reach
returns-clause-reach c config plan rest standard within begins =
    let same : config ≡ c.default.result = standard ∙ sym c.default.ensures in
    c.new.ensures.reach plan rest (subst (λ k. Within k plan) same within) (begins ∙ ap (λ k. script k plan ++ rest) same)
