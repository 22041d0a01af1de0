use Rattle.smith_component.proofs.Grammar.{embedded_none}
use Rattle.smith_component.proofs.laws.long_modules_make_long_sections.Goals as goal

pub returns : goal.returns
returns c m agree = embedded_none m agree
