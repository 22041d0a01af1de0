use Rattle.smith_syntax.specs.SameSignature.{same_signature_Decides}
use Rattle.smith_syntax.proofs.Signature.{signature_shown, shown_signature}
use Rattle.smith_syntax.proofs.laws.signatures_are_told.Goals as goal

pub returns-clause-equal : goal.returns-clause-equal
returns-clause-equal c = same_signature_Decides

pub returns-clause-shown : goal.returns-clause-shown
returns-clause-shown c s t = (signature_shown s t, shown_signature s t)
