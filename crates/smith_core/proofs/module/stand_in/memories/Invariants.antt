use Rattle.smith_input.specs.Loops.{Never}
use Rattle.smith_input.specs.Reading.{IsTail}
use Rattle.smith_input.proofs.Loops.{Onward}
use Rattle.smith_core.specs.StandIn.{ReadsMemoryType}
use Rattle.smith_core.proofs.module.stand_in.memories.Given as goal

-- Whatever the rest of the loop reads, the whole loop reads it after what was read.
abbrev pub invariant-loop-done : goal.invariant-loop-done
invariant-loop-done l = record {
  tail : IsTail l.u l.fn.u;
  onward : Onward Never ReadsMemoryType l.fn.config.loop_bits l.fn.config.min_memories l.fn.config.max_memories tt l.fn.u l.types.items l.done tt l.u;
}
