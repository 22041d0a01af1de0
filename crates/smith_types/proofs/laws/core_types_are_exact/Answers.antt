use Rattle.std.proofs.Common.{◌-◌, ◌++◌, []}
use Rattle.smith_input.proofs.ScriptBytes.{small_join, small_none}
use Rattle.smith_tree.specs.CoreTypeNeeds.{core_cost}
use Rattle.smith_tree.specs.CoreTypeScript.{script_core}
use Rattle.smith_types.proofs.CoreScript.{core_read}
use Rattle.smith_types.proofs.MadeCore.{core_fits}
use Rattle.smith_types.proofs.CoreScriptBytes.{small_core}
use Rattle.smith_types.proofs.laws.core_types_are_exact.Goals as goal

pub returns : goal.returns
returns c config around fuel e few short = (
  λ (bytes, rest, all, left, made). (let f = core_fits made in (f.formed, f.limits, f.readable, f.takes.enough)),
  λ (formed, limits, texts, need). (
    script_core config around fuel e ++ [],
    [],
    (small_join (small_core config around fuel e formed limits texts need few short) small_none).are,
    fuel - core_cost e,
    core_read config around fuel e [] formed limits texts need few short,
  ),
)
