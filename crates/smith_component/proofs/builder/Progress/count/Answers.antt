use Rattle.std.proofs.Common.{arith, length, sym, ap, ◌∙◌}
use Rattle.smith_component.proofs.TracksStack.{tracked_own}
use Rattle.smith_component.specs.Fills.{count_of}
use Rattle.smith_component.specs.Shown.{shown_sections}
use Rattle.smith_component.specs.declared.item.Counted.{Counted}
use Rattle.smith_component.proofs.SectionValues.{import_count}
use Rattle.smith_component.proofs.builder.Progress.count.Goals as goal

pub returns-in-Imports : goal.returns-in-Imports
returns-in-Imports c = grind (arith, import_count)

pub returns-in-Types : goal.returns-in-Types
returns-in-Types c =
    let n = c.own_len.ensures.count ∙ ap (λ s. length s.types) (tracked_own c.args.self.now.scopes c.requires.0) in
    n ∙ sym (ap (λ (what : Counted). count_of what (shown_sections c.args.self.now.inner.sections.items)) c.in-Types.is)

pub returns-in-Functions : goal.returns-in-Functions
returns-in-Functions c =
    c.requires.1.0.tabled.counts ∙ sym (ap (λ (what : Counted). count_of what (shown_sections c.args.self.now.inner.sections.items)) c.in-Functions.is)
