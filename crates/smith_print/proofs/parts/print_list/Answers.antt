use Rattle.smith_print.proofs.Sections.{adds_text}
use Rattle.smith_print.proofs.parts.print_list.Goals as goal

pub returns-clause-printed : goal.returns-clause-printed
returns-clause-printed g c = adds_text ((c.in_ok-print_entries.ensures {u = tt}).printed)
