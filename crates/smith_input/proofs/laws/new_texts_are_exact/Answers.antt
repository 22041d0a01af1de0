use Rattle.std.proofs.Common.{[], ◌++◌, length}
use Rattle.smith_input.specs.NameScript.{script_new_text}
use Rattle.smith_input.proofs.NameScript.{new_text_utf8, new_text_reachable, new_text_read}
use Rattle.smith_input.proofs.ScriptBytes.{small_join, small_new_text, small_none}
use Rattle.smith_input.proofs.Utf8Bytes.{utf8_bytes}
use Rattle.smith_input.proofs.laws.new_texts_are_exact.Goals as goal

pub returns : goal.returns
returns c max names name h = (
  λ (bytes, rest, all, r). (new_text_utf8 r, r.unique.is_new, new_text_reachable r),
  λ (k, fresh, made). (
    script_new_text max (length names) name ++ [],
    [],
    (small_join (small_new_text max names name h (utf8_bytes name k) made) small_none).are,
    new_text_read max names name [] h k made,
  ),
)
