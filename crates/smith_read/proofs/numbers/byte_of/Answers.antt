use Rattle.std.proofs.Common.{arith, ◌<◌, ◌≡◌, ◌∙◌}
use Rattle.std.proofs.lemmas.Bool.{eqb-true, eqb-false}
use Rattle.smith_read.proofs.Digits.{byte_none, byte_some, fails}
use Rattle.smith_read.proofs.numbers.byte_of.Goals as goal

pub returns-then-is_empty : goal.returns-then-is_empty
returns-then-is_empty c = grind (arith, eqb-true, fails, byte_none)

pub returns : goal.returns
returns c = grind (arith, eqb-false, byte_some)
