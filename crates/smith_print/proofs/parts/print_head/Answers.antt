use Rattle.std.proofs.Common.{◌++◌}
use Rattle.std.specs.Prelude.{codes, decimal}
use Rattle.smith_print.proofs.Printing.{prints_then}
use Rattle.smith_print.proofs.parts.print_head.Goals as goal
use Rattle.smith_print.specs.Words.{item_line}

pub returns-clause-printed : goal.returns-clause-printed
returns-clause-printed c =
    prints_then c.write.result c.args.out.now c.begin_entry.new.out c.write.new.self (item_line c.args.columns c.args.offsets.now.left.now)
    (codes "(component (;" ++ (decimal c.args.spaces.now.components ++ codes ";)")) ((c.in_ok-begin_entry.ensures {u = tt}).printed)
    (rw (c.in_ok-index.ensures {u = tt}).index at c.write.ensures.bytes)
