use Rattle.std.specs.List.{slice_range}
use Rattle.smith_format.proofs.Many.{Put}
use Rattle.smith_core.specs.SubTypes.{rec_type}
use Rattle.smith_core.proofs.module.encode.types.put_groups.Given as goal

abbrev pub invariant-loop-start : goal.invariant-loop-start
invariant-loop-start l = Put (λ g. rec_type (slice_range l.types g.0 g.1)) l.groups l.start-index l.initial.out l.out
