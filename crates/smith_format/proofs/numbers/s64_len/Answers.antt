use Rattle.std.proofs.Common.{rules, ◌≡◌, ◌⊎◌, inl, inr, length, ap, arith, ◌∙◌, true, pos, negsuc}
use Rattle.std.proofs.lemmas.Int.{to_z-of_z}
use Rattle.std.specs.Prelude.{int_lt}
use Rattle.std.specs.Int.{w64}
use Rattle.std.specs.Int.RustNames.{FitsSigned}
use mir.Val.{to_z}
use Rattle.smith_format.specs.Numbers.{signed}
use Rattle.smith_format.proofs.Digits.{signed_last, signed_more, signed_some, signed_short}
use Rattle.smith_format.proofs.numbers.s64_len.Goals.{then-left-lt-LEAST, else-left-lt-LEAST+then-left-gt-MOST}
use Rattle.smith_format.proofs.numbers.s64_len.Goals as goal

pub overflow_add-length : goal.overflow_add-length
overflow_add-length c =
    let n = ap (λ z. length (signed z)) (to_z-of_z w64 c.args.n c.ranges.n) in
    omega (arith, c.loop-left.invariant, signed_some (to_z w64 c.loop-left.left-bits), signed_short c.args.n c.ranges.n)

pub loop-left-preserved : goal.loop-left-preserved
loop-left-preserved c =
    let z = to_z w64 c.loop-left.left-bits in
    let f : FitsSigned w64 c.div_euclid-left.result = search rules in
    let outside : (int_lt z (negsuc 63) ≡ true) ⊎ (int_lt (pos 63) z ≡ true) = elim c.if-left-lt-LEAST.branch [
      | then-left-lt-LEAST w ↦ inl w.if-left-lt-LEAST.true
      | else-left-lt-LEAST+then-left-gt-MOST w ↦ inr w.if-left-gt-MOST.true
    ] in
    let e = ap length (signed_more z outside) in
    let r = ap (λ y. length (signed y)) (to_z-of_z w64 c.div_euclid-left.result f ∙ c.div_euclid-left.ensures) in
    omega (arith, c.loop-left.invariant)

pub returns-clause-length : goal.returns-clause-length
returns-clause-length c =
    let n = ap (λ z. length (signed z)) (to_z-of_z w64 c.args.n c.ranges.n) in
    let e = ap length (signed_last (to_z w64 c.loop-left.left-bits) c.if-left-lt-LEAST.false c.if-left-gt-MOST.false) in
    omega (arith, c.loop-left.invariant)

pub returns-clause-most : goal.returns-clause-most
returns-clause-most c =
    let n = ap (λ z. length (signed z)) (to_z-of_z w64 c.args.n c.ranges.n) in
    omega (arith, c.loop-left.invariant, signed_some (to_z w64 c.loop-left.left-bits), signed_short c.args.n c.ranges.n)
