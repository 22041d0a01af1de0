use Rattle.smith_check.proofs.NameSteps.{kebab_whole}
use Rattle.smith_check.proofs.names.is_kebab.Goals as goal

pub loop-byte-init : goal.loop-byte-init
loop-byte-init c = kebab_whole c.args.name.now
