use Rattle.std.proofs.Common.{arith, ◌∙◌, ◌≡◌, ◌∷◌, ◌+◌, ◌-◌, ◌*◌}
use Rattle.smith_read.specs.Reading.{◌>>=◌}
use Rattle.smith_read.proofs.Digits.{byte_is, number_none, number_last, number_wrong, number_next, number_great, passes, fails}
use Rattle.smith_read.proofs.numbers.+digits_of.Goals.{then-first-lt128-via-then-first-lt128, then-first-lt128-via-else-first-lt128+then-most-from}
use Rattle.smith_read.proofs.numbers.+digits_of.Goals as goal

pub returns-in_err-first-clause-read : goal.returns-in_err-first-clause-read
returns-in_err-first-clause-read t c =
    passes _ c.from_residual.result _ _ _ c.from_residual.ensures.1 c.in_err-first.ensures (number_none _ _ _ c.requires.some c.requires.last)

pub returns-then-first-last-clause-read : goal.returns-then-first-last-clause-read
returns-then-first-last-clause-read t c = grind (arith, byte_is, number_last)

pub returns-then-first-lt128-clause-read : goal.returns-then-first-lt128-clause-read
returns-then-first-lt128-clause-read t c = grind (arith, byte_is, then-first-lt128-via-then-first-lt128, number_wrong, number_great, fails)

pub returns-in_err-high-clause-read : goal.returns-in_err-high-clause-read
returns-in_err-high-clause-read t c = grind (arith, byte_is, number_next, passes)

pub returns-clause-read : goal.returns-clause-read
returns-clause-read t c = grind (arith, byte_is, number_next)
