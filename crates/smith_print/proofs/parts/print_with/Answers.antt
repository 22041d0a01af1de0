use Rattle.std.specs.Prelude.{codes}
use Rattle.smith_format.specs.Piece.{bytes}
use Rattle.smith_print.proofs.Sections.{adds_text, adds_then, fails, refused_before, refused_behind, whole}
use Rattle.smith_print.proofs.parts.print_with.Goals as goal
use Rattle.smith_print.specs.Components.{text_with}
use Rattle.smith_read.specs.PartNodes.{shown_tree}

pub returns-in_err-print_component-clause-refused : goal.returns-in_err-print_component-clause-refused
returns-in_err-print_component-clause-refused c =
    fails c.from_residual-in_err-print_component.result _ c.from_residual-in_err-print_component.ensures.1
    (refused_behind (bytes (codes "(component")) (refused_before (bytes (codes "\n"))
    (rw c.deref.ensures.value at (c.in_err-print_component.ensures {u = tt}).printed)))

pub returns-clause-printed : goal.returns-clause-printed
returns-clause-printed c =
    let first = adds_text {old = c.new-out.result} {new = c.write.new.self} {text = codes "(component"} (c.in_ok-write.ensures {u = tt}).bytes in
    let last = adds_text {old = c.print_component.new.out} {new = c.write-2.new.self} {text = codes "\n"} (c.in_ok-write-2.ensures {u = tt}).bytes in
    whole c.new-out.result c.write-2.new.self (text_with c.args.offsets.now (shown_tree c.args.component.now)) c.new-out.ensures.bytes
    (adds_then first (adds_then (rw c.deref.ensures.value at (c.in_ok-print_component.ensures {u = tt}).printed) last))
