use Rattle.smith_input.specs.Loops.{Never}
use Rattle.smith_input.specs.Reading.{IsTail}
use Rattle.smith_input.proofs.Loops.{Onward}
use Rattle.smith_core.specs.StandIn.{ReadsFunctionType}
use Rattle.smith_core.proofs.module.stand_in.function_types.Given as goal

-- Whatever the rest of the loop reads, the whole loop reads it after what was read.
abbrev pub invariant-loop-done : goal.invariant-loop-done
invariant-loop-done l = record {
  tail : IsTail l.u l.fn.u;
  onward : Onward Never (ReadsFunctionType l.fn.config) l.fn.config.loop_bits 0 l.fn.most tt l.fn.u l.types.items l.done tt l.u;
}
