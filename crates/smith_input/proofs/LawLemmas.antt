-- The lemmas that the laws state.
use Rattle.smith_input.proofs.Loops.{end_read, more_read}
use Rattle.smith_input.proofs.LowBits.{one_bit}
use Rattle.smith_input.proofs.NameScript.{longer_new, new_script_read, new_text_read, short_script, short_text_script}
use Rattle.smith_input.proofs.NameShapes.{longer_read, name_read, within_read}
use Rattle.smith_input.proofs.Picks.{reads-pick}
use Rattle.smith_input.proofs.ReadsTexts.{bytes_read, bytes_tail, bytes_unique, text_read}

pub ruleset laws = (
  bytes_read,
  bytes_tail,
  bytes_unique,
  end_read,
  longer_new,
  longer_read,
  more_read,
  name_read,
  new_script_read,
  new_text_read,
  one_bit,
  reads-pick,
  short_script,
  short_text_script,
  text_read,
  within_read,
)
