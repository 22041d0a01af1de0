use Rattle.std.proofs.Common.{refl}
use Rattle.smith_print.proofs.Listed.{going_first, going_next, going_printed}
use Rattle.smith_print.proofs.Shown.{text_component, text_instance}
use Rattle.smith_print.proofs.types.+printing.Goals as goal

pub print_decls-loop-decl-init : goal.print_decls-loop-decl-init
print_decls-loop-decl-init t c = going_first _ _ _ _ _ _ _

pub print_decls-loop-decl-preserved : goal.print_decls-loop-decl-preserved
print_decls-loop-decl-preserved t c =
    going_next _ _ _ _ _ _ _ _ _ _ _ _ _ _ _ _ c.loop-decl.invariant c.loop-decl-test.true c.decl-item.is (c.in_ok-print_line.ensures {u = tt})
    ((c.in_ok-print_decl.ensures {u = tt}).printed) ((c.in_ok-print_decl.ensures {u = tt}).indexes) refl

pub print_decls-returns : goal.print_decls-returns
print_decls-returns t c = rw (c.new-spaces.ensures) at (going_printed _ _ _ _ _ _ _ _ _ _ _ c.loop-decl.invariant c.loop-decl-test.false)

pub print_entry-returns-in-Component : goal.print_entry-returns-in-Component
print_entry-returns-in-Component t c =
    rw (c.in-Component.is, text_component c.in-Component.decls c.args.columns) (rw c.deref.ensures.value at c.print_nested.ensures)

pub print_entry-returns-in-Instance : goal.print_entry-returns-in-Instance
print_entry-returns-in-Instance t c =
    rw (c.in-Instance.is, text_instance c.in-Instance.decls c.args.columns) (rw c.deref-in-Instance.ensures.value at c.print_nested-in-Instance.ensures)
