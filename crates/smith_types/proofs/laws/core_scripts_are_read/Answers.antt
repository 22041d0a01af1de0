use Rattle.smith_types.proofs.CoreScript.{core_read}
use Rattle.smith_types.proofs.laws.core_scripts_are_read.Goals as goal

pub returns : goal.returns
returns c config around fuel e formed limits texts need few short rest =
    core_read config around fuel e rest formed limits texts need few short
