use Rattle.smith_scope.proofs.scope.Scope.function_mark.Goals as goal

pub returns-then-keeps : goal.returns-then-keeps
returns-then-keeps g c = λ k. rw (← c.marks.ensures.marks) c.function_mark.ensures
