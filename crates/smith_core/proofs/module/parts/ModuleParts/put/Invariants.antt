use Rattle.smith_format.proofs.Many.{Put}
use Rattle.smith_core.specs.Module.{section}
use Rattle.smith_core.proofs.module.parts.ModuleParts.put.Given as goal

abbrev pub invariant-loop-kind : goal.invariant-loop-kind
invariant-loop-kind l = Put (section l.fn.self) l.kind-items l.kind-index l.initial.out l.out
