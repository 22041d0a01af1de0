use Rattle.std.specs.List.{Contains}
use Rattle.smith_format.specs.Limits.{configured}
use Rattle.smith_reduce.proofs.Loops.{IfRest}
use Rattle.smith_reduce.proofs.fits.core_types.allows_values.Given as goal

abbrev pub invariant-loop-value : goal.invariant-loop-value
invariant-loop-value l = IfRest (Contains (configured l.config)) (λ v. v) l.values l.value-index
