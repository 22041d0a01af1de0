use Rattle.std.proofs.Common.{◌++◌, ap, sym, ◌∙◌, append_assoc}
use Rattle.std.specs.Prelude.{[], string_bytes}
use Rattle.smith_format.specs.Shown.{shown_func}
use Rattle.smith_print.proofs.Listed.{entry_lines-map}
use Rattle.smith_print.proofs.Printing.{prints_same}
use Rattle.smith_print.proofs.modules.print_module.Goals as goal
use Rattle.smith_print.specs.CoreTypes.{after_core_type, after_memory, core_function_line, memory_line}
use Rattle.smith_print.specs.Lines.{closed, lines}
use Rattle.smith_print.specs.Spaces.{nothing}
use Rattle.smith_print.specs.Words.{deeper}

pub returns : goal.returns
returns c =
    let n = deeper c.args.columns in
    let types = lines (λ f _. core_function_line (shown_func f)) (λ f. after_core_type) n nothing c.args.sections.now.types.items in
    let memories = lines (λ m _. memory_line m) (λ m. after_memory) n nothing c.args.sections.now.memories.items in
    let first = rw (c.deeper.ensures, c.new-types.ensures, c.deref.ensures.value) at (c.in_ok-print_lines.ensures {u = tt}).printed in
    let next = rw (c.deeper-2.ensures, c.new-memories.ensures, c.deref-2.ensures.value) at (c.in_ok-print_lines-2.ensures {u = tt}).printed in
    prints_same c.print_end.result c.args.out.now c.print_end.new.out
    (ap (λ q. closed c.args.columns (q ++ memories))
    (sym (entry_lines-map (λ f _. core_function_line f) (λ f. after_core_type) shown_func n nothing [] c.args.sections.now.types.items)))
    (c.print_end.ensures c.args.out.now (types ++ memories) c.len-start.ensures
    (next ∙ ap (λ q. q ++ memories) first ∙ append_assoc (string_bytes c.args.out.now) types memories))
