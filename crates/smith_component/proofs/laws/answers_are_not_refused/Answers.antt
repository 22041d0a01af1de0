use Rattle.smith_component.proofs.Reproducible.{answer_or_memory}
use Rattle.smith_component.proofs.laws.answers_are_not_refused.Goals as goal

pub returns : goal.returns
returns c config input = answer_or_memory config input
