use Rattle.smith_input.specs.Loops.{Never}
use Rattle.smith_input.specs.Reading.{IsTail}
use Rattle.smith_input.proofs.Loops.{Onward}
use Rattle.smith_format.specs.CoreReading.{ReadsValue}
use Rattle.smith_format.proofs.make.make_values.Given as goal

-- Whatever the rest of the loop reads, the whole loop reads it after what was read.
abbrev pub invariant-loop-done : goal.invariant-loop-done
invariant-loop-done l = record {
  tail : IsTail l.u l.fn.u;
  onward : Onward Never (ReadsValue l.valtypes) l.bits 0 l.max tt l.fn.u l.types.items l.done tt l.u;
}
