use Rattle.std.proofs.Common.{◌∙◌, ap, min}
use Rattle.smith_input.proofs.LowBits.{has_one}
use Rattle.smith_input.proofs.unstructured.has_low_bit.Goals as goal

pub returns : goal.returns
returns c =
    has_one c.args.byte c.from.result c.args.bits c.min-lowest.result c.ranges.byte.fits c.from.ensures
    (c.min-lowest.ensures ∙ ap (λ n. min n 8) c.max.ensures)
