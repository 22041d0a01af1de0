use Rattle.smith_verdict.specs.Contained.{IsPlainContent, IsWithinBounds}
use Rattle.smith_verdict.specs.declared.contained.Found.TheVariants.{Reference, TooMuch}
use Rattle.smith_verdict.proofs.Members.{members_named}
use Rattle.smith_verdict.proofs.contained.check_defined.Goals as goal

pub returns-in-Record-clause-plain : goal.returns-in-Record-clause-plain
returns-in-Record-clause-plain c =
    rw c.in-Record.is
    (members_named Reference IsPlainContent c.check_texts.result c.in-Record.ty.fields.items (rw c.deref.ensures.value at c.check_texts.ensures.plain))

pub returns-in-Record-clause-bounded : goal.returns-in-Record-clause-bounded
returns-in-Record-clause-bounded c =
    rw c.in-Record.is
    (members_named TooMuch IsWithinBounds c.check_texts.result c.in-Record.ty.fields.items (rw c.deref.ensures.value at c.check_texts.ensures.bounded))

pub returns-in-Variant-clause-plain : goal.returns-in-Variant-clause-plain
returns-in-Variant-clause-plain c =
    rw c.in-Variant.is
    (members_named Reference IsPlainContent c.check_texts-in-Variant.result c.in-Variant.ty.cases.items
    (rw c.deref-in-Variant.ensures.value at c.check_texts-in-Variant.ensures.plain))

pub returns-in-Variant-clause-bounded : goal.returns-in-Variant-clause-bounded
returns-in-Variant-clause-bounded c =
    rw c.in-Variant.is
    (members_named TooMuch IsWithinBounds c.check_texts-in-Variant.result c.in-Variant.ty.cases.items
    (rw c.deref-in-Variant.ensures.value at c.check_texts-in-Variant.ensures.bounded))
