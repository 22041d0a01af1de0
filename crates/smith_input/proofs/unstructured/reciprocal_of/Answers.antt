use Rattle.std.proofs.Common.{◌≡◌, ◌+◌, ◌∙◌, ap, arith}
use Rattle.smith_input.proofs.Widths.{reciprocal, tabulate, tabulated}
use Rattle.smith_input.proofs.unstructured.reciprocal_of.Goals as goal

pub returns : goal.returns
unfolding tabulate
returns c =
    tabulated (λ k. reciprocal (k + 1)) 0 256 c.from.result (omega (arith, c.from.ensures, c.ranges.last))
    ∙ ap (λ k. reciprocal (k + 1)) (let is : 0 + c.from.result ≡ c.args.last = omega (arith, c.from.ensures) in is)
