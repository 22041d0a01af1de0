use Rattle.std.specs.List.{zip}
use Rattle.smith_format.proofs.Many.{Put}
use Rattle.smith_core.specs.Segments.{table}
use Rattle.smith_core.proofs.module.encode.tables.put_tables.Given as goal

abbrev pub invariant-loop-at : goal.invariant-loop-at
invariant-loop-at l = Put table (zip l.types l.initials) l.at l.initial.out l.out
