use Rattle.std.specs.List.{slice_range}
use Rattle.smith_format.proofs.Sizes.{Sum}
use Rattle.smith_core.specs.SubTypes.{rec_type}
use Rattle.smith_core.proofs.module.encode.types.groups_len.Given as goal

abbrev pub invariant-loop-start : goal.invariant-loop-start
invariant-loop-start l = Sum (λ g. rec_type (slice_range l.types g.0 g.1)) l.groups l.start-index l.total
