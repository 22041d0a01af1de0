use Rattle.std.proofs.Common.{refl}
use Rattle.smith_format.proofs.CoreReading.{limits_formed}
use Rattle.smith_format.proofs.make.arbitrary_memtype.Goals as goal

pub returns-clause-formed : goal.returns-clause-formed
returns-clause-formed c = record { limits = limits_formed c.make_limits-minimum.ensures.reads; shared = refl; memory64 = refl }
