use Rattle.smith_input.proofs.Reading.{reads_unique}
use Rattle.smith_input.proofs.laws.choices_are_decided.Goals as goal

pub returns : goal.returns
returns c n bytes j k left rest r s = reads_unique r s
