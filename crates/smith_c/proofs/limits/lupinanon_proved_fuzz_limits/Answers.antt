use Rattle.std.proofs.Common.{ap, ◌∙◌}
use Rattle.smith_c.specs.Limits.{limits_of}
use Rattle.smith_c.proofs.limits.lupinanon_proved_fuzz_limits.Goals as goal

pub returns : goal.returns
returns c default is = c.of.ensures ∙ ap limits_of (c.fuzz_limits.ensures default is)
