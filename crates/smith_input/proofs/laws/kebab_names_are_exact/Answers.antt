use Rattle.std.proofs.Common.{[], ◌++◌}
use Rattle.smith_input.specs.NameScript.{script_within}
use Rattle.smith_input.proofs.Kebab.{kebab_is_read}
use Rattle.smith_input.proofs.NameShapes.{kebab_within, within_read}
use Rattle.smith_input.proofs.ScriptBytes.{small_join, small_none, small_within}
use Rattle.smith_input.proofs.laws.kebab_names_are_exact.Goals as goal

pub returns : goal.returns
returns c max name h = (
  λ (bytes, rest, all, r). (kebab_is_read r, kebab_within r),
  λ (k, w). (script_within max name ++ [], [], (small_join (small_within max name h k) small_none).are, within_read max name [] h k w),
)
