use Rattle.std.proofs.Common.{ap, ◌∙◌}
use Rattle.smith_scopes.proofs.scopes.Scopes.function_mark.Goals as goal

pub returns : goal.returns
returns c = λ k. rw (← c.last.ensures.marked) (c.function_mark.ensures (ap (λ s. s.keeps) c.last.ensures.scope ∙ k))
