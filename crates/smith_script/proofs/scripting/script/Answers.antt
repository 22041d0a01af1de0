use Rattle.std.proofs.lemmas.Result.{IfErr-weaker}
use Rattle.smith_script.proofs.Plans.{plan_or_memory, refused_comes_on_none}
use Rattle.smith_script.proofs.scripting.script.Goals as goal

pub returns-clause-plans : goal.returns-clause-plans
returns-clause-plans c t spells consistent within =
    IfErr-weaker c.consistent_script.result _ _ (λ e h. plan_or_memory _ t consistent within e (λ n. h n t spells)) c.consistent_script.ensures.refuses

pub returns-clause-no_input : goal.returns-clause-no_input
returns-clause-no_input c consistent =
    IfErr-weaker c.consistent_script.result _ _
    (λ e h n t spells. refused_comes_on_none _ t consistent e (λ m. h m t spells) n) c.consistent_script.ensures.refuses
