use Rattle.std.proofs.Common.{sym, subst}
use Rattle.std.specs.Str.{IsValidUpTo}
use Rattle.smith_input.proofs.ReadsTexts.{longest_front}
use Rattle.smith_input.proofs.texts.longest_text.Goals as goal

pub returns-in-Err : goal.returns-in-Err
returns-in-Err c =
    let v : IsValidUpTo c.args.bytes.now c.valid_up_to.result =
    subst (λ n. IsValidUpTo c.args.bytes.now n) (sym c.valid_up_to.ensures) c.in-Err.ensures.cases.1 in
    longest_front c.args.bytes.now c.from_utf8_unchecked.result.now c.valid_up_to.result c.from_utf8_unchecked.ensures v
