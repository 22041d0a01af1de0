use Rattle.smith_input.proofs.ReadsTexts.{text_unique}
use Rattle.smith_input.proofs.laws.texts_are_decided.Goals as goal

pub returns : goal.returns
returns c max bytes a b left rest r s = text_unique r s
