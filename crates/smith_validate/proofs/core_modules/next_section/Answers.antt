use Rattle.std.proofs.Common.{arith, Some, sym, subst, ◌∙◌, ap}
use Rattle.std.proofs.lemmas.List.{nil_from_length}
use Rattle.smith_validate.specs.CoreModules.{HasNoSection}
use Rattle.smith_validate.proofs.CoreModules.{a_section, no_section, no_section_at_end, shorter, unread}
use Rattle.smith_validate.proofs.core_modules.next_section.Goals as goal

pub returns-in_default-clause-first : goal.returns-in_default-clause-first
returns-in_default-clause-first c = subst HasNoSection (sym (nil_from_length c.args.sections.now c.in_default.ensures.cases)) no_section_at_end

pub returns-in-Ok-clause-first : goal.returns-in-Ok-clause-first
returns-in-Ok-clause-first c =
    a_section c.in-Some.id.now c.in-Some.rest.now (c.in-Ok.contents.now, c.in-Ok.after.now) c.in-Ok.ensures ∙ ap Some (sym c.in-Some.ensures.cases.0)

pub returns-in-Ok-clause-less : goal.returns-in-Ok-clause-less
returns-in-Ok-clause-less c =
    shorter c.in-Some.id.now c.in-Ok.contents.now c.in-Ok.after.now c.args.sections.now (returns-in-Ok-clause-first c)

pub returns-in-Err-Malformed-clause-first : goal.returns-in-Err-Malformed-clause-first
returns-in-Err-Malformed-clause-first c = grind (arith, unread, no_section)
