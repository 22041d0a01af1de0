use Rattle.std.specs.Prelude.{string_bytes}
use Rattle.smith_print.proofs.Listed.{Going}
use Rattle.smith_print.proofs.lines.print_entries.Given as goal

abbrev pub invariant-loop-entry : goal.invariant-loop-entry
invariant-loop-entry g l =
    Going g.T.Line.text g.T.Line.after l.columns l.entries l.entry-index (string_bytes l.initial.out) (string_bytes l.out) l.initial.spaces l.spaces
    l.initial.offsets.left.now l.offsets.left.now
