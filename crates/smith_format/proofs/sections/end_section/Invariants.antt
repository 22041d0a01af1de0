use Rattle.smith_format.proofs.Framing.{Framing}
use Rattle.smith_format.proofs.sections.end_section.Given as goal

abbrev pub invariant-loop-rest : goal.invariant-loop-rest
invariant-loop-rest l = Framing l.fn.out l.start l.length l.out l.at l.rest

abbrev pub decreases-loop-rest : goal.decreases-loop-rest
decreases-loop-rest l = l.rest
