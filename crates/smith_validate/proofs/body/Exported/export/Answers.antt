use Rattle.smith_validate.proofs.body.Exported.export.Goals as goal

pub returns-in_ok-self-clause-first : goal.returns-in_ok-self-clause-first
returns-in_ok-self-clause-first c = λ table ts named is. (
  c.if-self-2.true,
  λ s. rw (c.in-Some.is) (λ h w. (c.in_ok-self.ensures {u = tt}).met table named ts s h w is),
)
