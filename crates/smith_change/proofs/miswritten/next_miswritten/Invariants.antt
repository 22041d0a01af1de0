use Rattle.smith_change.specs.Miswritten.{AreCutsFramed}
use Rattle.smith_change.proofs.miswritten.next_miswritten.Given as goal

-- The cuts before this one, from the first one that is asked for on, are framed.
abbrev pub invariant-loop-number : goal.invariant-loop-number
invariant-loop-number l = AreCutsFramed l.bytes l.from l.number
