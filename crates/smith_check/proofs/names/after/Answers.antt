use Rattle.smith_check.proofs.LabelSteps.{acronym_ends, acronym_more, digit_more, hyphen_next, letter_more, word_ends, word_more}
use Rattle.smith_check.proofs.NameSteps.{decided, refused}
use Rattle.smith_check.proofs.names.after.Goals as goal

pub returns-then-is_digit-2 : goal.returns-then-is_digit-2
returns-then-is_digit-2 c = λ cs g.
    digit_more c.args.byte cs (decided _ c.is_digit-in-Digits.ensures c.if-is_digit-2.true) (rw c.in-Digits.is at g)

pub returns-then-byte-eq45 : goal.returns-then-byte-eq45
returns-then-byte-eq45 c = λ cs g. hyphen_next c.args.byte cs c.if-byte-eq45.true (rw c.in-Digits.is at g)

pub returns-else-byte-eq45 : goal.returns-else-byte-eq45
returns-else-byte-eq45 c = λ cs g.
    c.after_letter-else-byte-eq45.ensures cs
    (letter_more c.args.byte cs (refused _ c.is_digit-in-Digits.ensures c.if-is_digit-2.false) c.if-byte-eq45.false (rw c.in-Digits.is at g))

pub returns-then-is_of_word : goal.returns-then-is_of_word
returns-then-is_of_word c = λ cs g. word_more c.args.byte cs (decided _ c.is_of_word.ensures c.if-is_of_word.true) (rw c.in-Small.is at g)

pub returns-else-is_of_word : goal.returns-else-is_of_word
returns-else-is_of_word c = λ cs g.
    c.after_hyphen.ensures cs (word_ends c.args.byte cs (refused _ c.is_of_word.ensures c.if-is_of_word.false) (rw c.in-Small.is at g))

pub returns-then-is_of_acronym : goal.returns-then-is_of_acronym
returns-then-is_of_acronym c = λ cs g.
    acronym_more c.args.byte cs (decided _ c.is_of_acronym.ensures c.if-is_of_acronym.true) (rw c.in-Capital.is at g)

pub returns-else-is_of_acronym : goal.returns-else-is_of_acronym
returns-else-is_of_acronym c = λ cs g.
    c.after_hyphen-else-is_of_acronym.ensures cs
    (acronym_ends c.args.byte cs (refused _ c.is_of_acronym.ensures c.if-is_of_acronym.false) (rw c.in-Capital.is at g))
