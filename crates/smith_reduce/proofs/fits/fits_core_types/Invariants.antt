use Rattle.smith_read.specs.Nodes.{shown_core_node}
use Rattle.smith_reduce.specs.Fits.{FitsCoreType}
use Rattle.smith_reduce.proofs.Loops.{IfRest}
use Rattle.smith_reduce.proofs.fits.fits_core_types.Given as goal

abbrev pub invariant-loop-ty : goal.invariant-loop-ty
invariant-loop-ty l = IfRest (FitsCoreType l.config) shown_core_node l.types l.ty-index
