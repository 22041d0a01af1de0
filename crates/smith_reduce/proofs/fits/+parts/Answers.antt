use Rattle.std.proofs.Common.{arith}
use Rattle.smith_reduce.proofs.Loops.{enough_parts}
use Rattle.smith_reduce.proofs.fits.+parts.Goals as goal

pub fits_parts-returns-clause-finishable : goal.fits_parts-returns-clause-finishable
fits_parts-returns-clause-finishable t c is = enough_parts c.args.config.now c.args.parts.now (omega (arith, c.if-parts-config.false))
