use Rattle.smith_syntax.specs.Sizes.{capped}
use Rattle.smith_tree.specs.Bodies.{IsSmall, with_facts}
use Rattle.smith_tree.specs.Facts.{Facts}
use Rattle.smith_validate.proofs.TypeSteps.{alias_judged}
use Rattle.smith_validate.proofs.types.add_named.Goals as goal

pub returns-in-Some-clause-judged : goal.returns-in-Some-clause-judged
returns-in-Some-clause-judged c = λ asks b outer names table s f e.
    alias_judged c.add_type.result (λ (g : Facts). capped g.size) c.in-Some.ty.size (λ gs d. IsSmall d (with_facts b gs)) f (rw c.in-Some.is at e)
    (λ g. c.add_type.ensures.judged asks b outer names table s g)
