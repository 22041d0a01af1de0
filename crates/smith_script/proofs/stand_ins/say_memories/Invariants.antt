use Rattle.std.proofs.Common.{◌+◌, ◌≤◌, length}
use Rattle.smith_core.specs.StandInScript.{all_memories}
use Rattle.smith_script_types.proofs.Saying.{Towards}
use Rattle.smith_script_types.specs.Fronts.{script_memories}
use Rattle.smith_script.proofs.stand_ins.say_memories.Given as goal

abbrev pub invariant-loop-minimum : goal.invariant-loop-minimum
invariant-loop-minimum l = record {
  few : l.done + length l.left ≤ length l.bytes;
  said : Towards l.initial.out l.out (script_memories l.config 0 (all_memories l.bytes)) (script_memories l.config l.done (all_memories l.left));
}

abbrev pub decreases-loop-minimum : goal.decreases-loop-minimum
decreases-loop-minimum l = length l.left
