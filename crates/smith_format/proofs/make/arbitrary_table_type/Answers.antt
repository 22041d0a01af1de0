use Rattle.std.proofs.Common.{refl}
use Rattle.smith_format.proofs.CoreReading.{element_formed, limits_formed}
use Rattle.smith_format.proofs.make.arbitrary_table_type.Goals as goal

pub returns-clause-formed : goal.returns-clause-formed
returns-clause-formed c = record {
  element = element_formed c.make_element_type-element_type.ensures.reads;
  limits = limits_formed c.make_limits-minimum.ensures.reads;
  table64 = refl;
}
