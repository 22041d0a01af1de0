use Rattle.std.specs.List.{zip}
use Rattle.smith_format.proofs.Sizes.{Sum}
use Rattle.smith_core.specs.Segments.{table}
use Rattle.smith_core.proofs.module.encode.tables.tables_len.Given as goal

abbrev pub invariant-loop-at : goal.invariant-loop-at
invariant-loop-at l = Sum table (zip l.types l.initials) l.at l.total
