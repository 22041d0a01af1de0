use Rattle.std.proofs.Common.{drop}
use Rattle.smith_validate.specs.Deferring.{Adds}
use Rattle.smith_validate.specs.declared.exposure.Exposure.{Exposure}
use Rattle.smith_validate.proofs.exposure.Exposure.add_all.Given as goal

abbrev pub invariant-loop-used : goal.invariant-loop-used
invariant-loop-used l = (newer : Exposure) → Adds l.self newer (drop l.used-index l.uses) → Adds l.fn.self newer l.uses
