use Rattle.smith_print.proofs.Listed.{going_first, going_indexes, going_next, going_passed, going_printed}
use Rattle.smith_print.proofs.lines.print_entries.Goals as goal

pub loop-entry-init : goal.loop-entry-init
loop-entry-init g c = going_first _ _ _ _ _ _ _

pub loop-entry-preserved : goal.loop-entry-preserved
loop-entry-preserved g c =
    going_next _ _ _ _ _ _ _ _ _ _ _ _ _ _ _ _ c.loop-entry.invariant c.loop-entry-test.true c.entry-item.is
    ((c.in_ok-begin_entry.ensures {u = tt}).printed) ((c.in_ok-print.ensures {u = tt}).printed) ((c.in_ok-print.ensures {u = tt}).indexes)
    ((c.in_ok-begin_entry.ensures {u = tt}).passed)

pub returns-clause-printed : goal.returns-clause-printed
returns-clause-printed g c = going_printed _ _ _ _ _ _ _ _ _ _ _ c.loop-entry.invariant c.loop-entry-test.false

pub returns-clause-indexes : goal.returns-clause-indexes
returns-clause-indexes g c = going_indexes _ _ _ _ _ _ _ _ _ _ _ c.loop-entry.invariant c.loop-entry-test.false

pub returns-clause-passed : goal.returns-clause-passed
returns-clause-passed g c = going_passed _ _ _ _ _ _ _ _ _ _ _ c.loop-entry.invariant c.loop-entry-test.false
