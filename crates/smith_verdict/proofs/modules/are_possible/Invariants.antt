use Rattle.smith_syntax.specs.Possible.{PossibleMemory}
use Rattle.smith_verdict.proofs.Loops.{Left}
use Rattle.smith_verdict.proofs.modules.are_possible.Given as goal

abbrev pub invariant-loop-memory : goal.invariant-loop-memory
invariant-loop-memory l = Left PossibleMemory l.memories l.memory-index
