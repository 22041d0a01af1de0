use Rattle.smith_print.proofs.Printing.{prints_same}
use Rattle.smith_print.proofs.Shown.{text_module_type}
use Rattle.smith_print.proofs.modules.print_core_entry.Goals as goal

pub returns-in-Module : goal.returns-in-Module
returns-in-Module c =
    rw c.in-Module.is (prints_same c.print_module_type.result c.args.out.now c.print_module_type.new.out
    (text_module_type c.in-Module.decls.items c.args.columns) (rw c.deref.ensures.value at c.print_module_type.ensures))
