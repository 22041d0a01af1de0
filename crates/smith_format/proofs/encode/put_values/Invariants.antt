use Rattle.smith_format.specs.CoreTypes.{core_val}
use Rattle.smith_format.proofs.Many.{Put}
use Rattle.smith_format.proofs.encode.put_values.Given as goal

abbrev pub invariant-loop-ty : goal.invariant-loop-ty
invariant-loop-ty l = Put core_val l.types l.ty-index l.initial.out l.out
