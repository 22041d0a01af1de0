use Rattle.smith_input.proofs.ReadsTexts.{text_cut}
use Rattle.smith_input.proofs.texts.limited_string.Goals as goal

pub returns-clause-read : goal.returns-clause-read
returns-clause-read c =
    text_cut
    c.int_in_range-count.ensures.1
    c.int_in_range-count.ensures.2
    c.left-left.ensures
    c.min.ensures
    c.longest_text-text.ensures
    c.in_ok-from_str.ensures.ok
    c.skip.ensures
