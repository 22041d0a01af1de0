use Rattle.smith_read.specs.ModuleSections.{shown_sections}
use Rattle.smith_verdict.proofs.Judging.{found_is, sound_is_found, unread_is_other}
use Rattle.smith_verdict.proofs.modules.module_of.Goals as goal

pub returns-in-Ok-clause-judged : goal.returns-in-Ok-clause-judged
returns-in-Ok-clause-judged c = found_is c.args.text.now (shown_sections c.in-Ok.sections) c.judged_sections.result c.in-Ok.ensures c.judged_sections.ensures

pub returns-in-Ok-clause-sound : goal.returns-in-Ok-clause-sound
returns-in-Ok-clause-sound c =
    sound_is_found c.args.text.now (shown_sections c.in-Ok.sections) c.judged_sections.result c.in-Ok.ensures c.judged_sections.ensures

pub returns-in-Err-Malformed-clause-judged : goal.returns-in-Err-Malformed-clause-judged
returns-in-Err-Malformed-clause-judged c = unread_is_other c.args.text.now (rw c.in-Err-Malformed.field-0-is at c.in-Err-Malformed.ensures)

pub returns-in-Err-Malformed-clause-sound : goal.returns-in-Err-Malformed-clause-sound
returns-in-Err-Malformed-clause-sound c = λ m.
    absurd ((unread_is_other c.args.text.now (rw c.in-Err-Malformed.field-0-is at c.in-Err-Malformed.ensures)).0 m)
