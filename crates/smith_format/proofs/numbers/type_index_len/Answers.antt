use Rattle.std.proofs.Common.{rules, length, ap, arith, ◌∙◌}
use Rattle.std.proofs.lemmas.Int.{to_z-of_z}
use Rattle.std.specs.Int.{w64}
use Rattle.std.specs.Int.RustNames.{FitsSigned}
use Rattle.smith_format.specs.Numbers.{signed}
use Rattle.smith_format.proofs.Digits.{signed_index_short}
use Rattle.smith_format.proofs.numbers.type_index_len.Goals as goal

pub returns-clause-most : goal.returns-clause-most
returns-clause-most c =
    let f : FitsSigned w64 c.from.result = search rules in
    let n = ap (λ m. length (signed m)) (to_z-of_z w64 c.from.result f ∙ c.from.ensures) in
    omega (arith, c.s64_len.ensures.length, signed_index_short c.args.index c.ranges.index.fits)
