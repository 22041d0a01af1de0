use Rattle.std.proofs.Common.{[], ◌++◌, length}
use Rattle.smith_input.specs.NameScript.{script_new}
use Rattle.smith_input.proofs.NameScript.{new_reachable, new_script_read}
use Rattle.smith_input.proofs.NewNames.{new_kebab}
use Rattle.smith_input.proofs.ScriptBytes.{small_join, small_new, small_none}
use Rattle.smith_input.proofs.laws.new_names_are_exact.Goals as goal

pub returns : goal.returns
returns c max names name h = (
  λ (bytes, rest, all, r). (new_kebab r, r.unique.is_new, new_reachable r),
  λ (k, fresh, made). (
    script_new max (length names) name ++ [],
    [],
    (small_join (small_new max (length names) name h k) small_none).are,
    new_script_read max names name [] h k made,
  ),
)
