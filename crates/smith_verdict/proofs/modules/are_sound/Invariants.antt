use Rattle.smith_verdict.specs.Modules.{SoundMemory}
use Rattle.smith_verdict.proofs.Loops.{Left}
use Rattle.smith_verdict.proofs.modules.are_sound.Given as goal

abbrev pub invariant-loop-memory : goal.invariant-loop-memory
invariant-loop-memory l = Left SoundMemory l.memories l.memory-index
