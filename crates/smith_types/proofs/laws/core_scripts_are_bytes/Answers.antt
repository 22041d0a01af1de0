use Rattle.smith_types.proofs.CoreScriptBytes.{small_core}
use Rattle.smith_types.proofs.laws.core_scripts_are_bytes.Goals as goal

pub returns : goal.returns
returns c = λ config around fuel e formed limits texts need few short. (small_core config around fuel e formed limits texts need few short).are
