use Rattle.std.proofs.Common.{◌++◌, ◌∙◌, ap, append_assoc}
use Rattle.std.specs.Prelude.{string_bytes}
use Rattle.smith_print.proofs.Sections.{adds_text}
use Rattle.smith_print.proofs.parts.print_core_module.Goals as goal
use Rattle.smith_print.specs.Components.{module_head_text, module_text}
use Rattle.smith_read.specs.ModuleSections.{shown_sections}

pub returns-clause-printed : goal.returns-clause-printed
returns-clause-printed c =
    let head = module_head_text c.args.columns c.args.spaces.now c.args.offsets.now.left.now in
    let text = module_text (shown_sections c.in-Ok.sections) c.args.columns in
    rw (c.in-Ok.ensures {u = tt}) (adds_text (c.in_ok-print_module.ensures {u = tt} ∙ ap (λ z. z ++ text) ((c.in_ok-print_module_head.ensures {u = tt}).printed)
    ∙ append_assoc (string_bytes c.args.out.now) head text))
