use Rattle.std.specs.Prelude.{codes, string_bytes}
use Rattle.smith_syntax.specs.Signature.{named}
use Rattle.smith_print.proofs.Printing.{prints_group}
use Rattle.smith_print.proofs.values.print_defined.Goals as goal
use Rattle.smith_print.specs.Values.{case_text, field_text, label_text}

pub returns-in-Record : goal.returns-in-Record
returns-in-Record c =
    rw c.in-Record.is (prints_group c.print_group.result c.args.out.now c.print_group.new.out
    (codes "(record") (field_text (codes " (field ")) named c.in-Record.ty.fields.items
    (rw c.deref.ensures.value at c.print_group.ensures))

pub returns-in-Variant : goal.returns-in-Variant
returns-in-Variant c =
    rw c.in-Variant.is (prints_group c.print_group-in-Variant.result c.args.out.now c.print_group-in-Variant.new.out
    (codes "(variant") (case_text (codes " (case ")) named c.in-Variant.ty.cases.items
    (rw c.deref-in-Variant.ensures.value at c.print_group-in-Variant.ensures))

pub returns-in-Flags : goal.returns-in-Flags
returns-in-Flags c =
    rw c.in-Flags.is (prints_group c.print_group-in-Flags.result c.args.out.now c.print_group-in-Flags.new.out
    (codes "(flags") (label_text (codes " ")) string_bytes c.in-Flags.ty.fields.items
    (rw c.deref-in-Flags.ensures.value at c.print_group-in-Flags.ensures))

pub returns-in-Enum : goal.returns-in-Enum
returns-in-Enum c =
    rw c.in-Enum.is (prints_group c.print_group-in-Enum.result c.args.out.now c.print_group-in-Enum.new.out
    (codes "(enum") (label_text (codes " ")) string_bytes c.in-Enum.ty.variants.items
    (rw c.deref-in-Enum.ensures.value at c.print_group-in-Enum.ensures))
