use Rattle.std.proofs.Common.{arith, ap, sym, ◌∙◌, ◌≡◌, string_bytes, take, drop, subst}
use Rattle.std.specs.Str.{IsUtf8}
use Rattle.smith_read.proofs.Digits.{fails, found}
use Rattle.smith_read.proofs.Loops.{text_after, utf8_read, utf8_refused}
use Rattle.smith_read.proofs.lists.read_text.Goals as goal

pub returns-in_ok-from_str-in-Ok : goal.returns-in_ok-from_str-in-Ok
returns-in_ok-from_str-in-Ok c =
    let n = c.in_ok-length.length in
    let rest = c.in_ok-length.rest.now in
    let u : IsUtf8 (take n rest) = subst IsUtf8 c.split_at.ensures.front c.in-Ok.ensures.cases.1 in
    let e : take n rest ≡ string_bytes c.in_ok-from_str-in-Ok.field-0 =
    sym ((c.in_ok-from_str-in-Ok.ensures {u = tt}).ok ∙ c.in-Ok.ensures.cases.0 ∙ c.split_at.ensures.front) in
    text_after _ _ _ c.in_ok-length.ensures (omega (arith, c.if-rest-length.false)) ∙ utf8_read _ _ u ∙ ap (λ t. found t (drop n rest)) e
    ∙ ap (λ t. found (string_bytes c.in_ok-from_str-in-Ok.field-0) t) (sym c.split_at.ensures.back)

pub returns-in-Err : goal.returns-in-Err
returns-in-Err c =
    let n = c.in_ok-length.length in
    let rest = c.in_ok-length.rest.now in
    fails _ _ c.malformed-in-Err.ensures
    (text_after _ _ _ c.in_ok-length.ensures (omega (arith, c.if-rest-length.false))
    ∙ utf8_refused _ _ (λ h. c.in-Err.ensures.cases.0 (subst IsUtf8 (sym c.split_at.ensures.front) h)))
