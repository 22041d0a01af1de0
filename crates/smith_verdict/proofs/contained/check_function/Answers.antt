use Rattle.smith_verdict.specs.Contained.{IsPlainContent, IsWithinBounds}
use Rattle.smith_verdict.specs.declared.contained.Found.TheVariants.{Reference, TooMuch}
use Rattle.smith_verdict.proofs.Members.{members_named}
use Rattle.smith_verdict.proofs.contained.check_function.Goals as goal

pub returns-clause-plain : goal.returns-clause-plain
returns-clause-plain c =
    rw (← c.ty.view_is)
    (members_named Reference IsPlainContent c.check_texts.result c.ty.inside.params.items (rw c.deref.ensures.value at c.check_texts.ensures.plain))

pub returns-clause-bounded : goal.returns-clause-bounded
returns-clause-bounded c =
    rw (← c.ty.view_is)
    (members_named TooMuch IsWithinBounds c.check_texts.result c.ty.inside.params.items (rw c.deref.ensures.value at c.check_texts.ensures.bounded))
