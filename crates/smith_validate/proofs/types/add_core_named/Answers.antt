use Rattle.smith_tree.specs.Bodies.{IsSmall, with_core_facts}
use Rattle.smith_validate.specs.Kept.{kept_core}
use Rattle.smith_validate.proofs.TypeSteps.{alias_judged}
use Rattle.smith_validate.proofs.types.add_core_named.Goals as goal

pub returns-in-Some-clause-judged : goal.returns-in-Some-clause-judged
returns-in-Some-clause-judged c = λ asks b outer names table s f e.
    alias_judged c.add_core_type.result kept_core c.in-Some.ty (λ gs d. IsSmall d (with_core_facts b gs)) f (rw c.in-Some.is at e)
    (λ g. c.add_core_type.ensures.judged asks b outer names table s g)
