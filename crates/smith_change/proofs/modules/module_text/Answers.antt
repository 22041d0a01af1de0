use Rattle.std.proofs.Common.{◌≡◌, ap, map, Some, ◌∙◌}
use Rattle.smith_format.specs.Piece.{◌⊕◌}
use Rattle.smith_format.specs.Shown.{shown_func}
use Rattle.smith_core.specs.StandInText.{stand_in, stand_in_text}
use Rattle.smith_read.specs.ModuleSections.{shown_sections}
use Rattle.smith_change.proofs.Filling.{nothing_before}
use Rattle.smith_change.proofs.modules.module_text.Goals as goal

pub returns-in-Ok : goal.returns-in-Ok
returns-in-Ok c =
    let text = stand_in_text (stand_in (map shown_func c.deref.result.now) c.deref-2.result.now) in
    let same : stand_in (map shown_func c.deref.result.now) c.deref-2.result.now ≡ shown_sections c.args.sections.now =
    cc (c.deref.ensures.value, c.deref-2.ensures.value) in
    c.in-Ok.ensures.is ∙ ap (λ bs. Some bs ⊕ text) c.new-out.ensures.items ∙ nothing_before text ∙ ap stand_in_text same
