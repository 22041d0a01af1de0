use Rattle.std.proofs.Common.{rules, ◌≡◌, ◌+◌, ◌⊎◌, inl, inr, ◌∷◌, [], ap, sym, ◌∙◌, true, pos, negsuc, add_comm, subst, ℤ, unsigned_abs}
use Rattle.std.proofs.lemmas.Int.{to_z-of_z}
use Rattle.std.specs.Prelude.{int_lt}
use Rattle.std.specs.Int.{w64}
use Rattle.std.specs.Int.RustNames.{FitsSigned}
use mir.Val.{to_z, of_z}
use Rattle.smith_format.specs.Numbers.{signed}
use Rattle.smith_format.specs.Division.{low_bits, high_bits}
use Rattle.smith_format.specs.Piece.{s}
use Rattle.smith_format.specs.Writing.{Puts}
use Rattle.smith_format.proofs.Digits.{signed_last, signed_more, signed_some}
use Rattle.smith_format.proofs.Steps.{towards_next, towards_exit, towards_end}
use Rattle.smith_format.proofs.numbers.put_s64.Goals.{then-rest-lt-LEAST, else-rest-lt-LEAST+then-rest-gt-MOST}
use Rattle.smith_format.proofs.numbers.put_s64.Goals as goal

pub returns-in_err-write_byte : goal.returns-in_err-write_byte
returns-in_err-write_byte c =
    let n = to_z-of_z w64 c.args.n c.ranges.n in
    subst (λ (z : ℤ). Puts c.from_residual.result c.args.out.now c.write_byte.new.out (s z)) n
    (towards_exit c.from_residual.result _ _ _ _ _ _ _ c.from_residual.ensures.1 c.loop-rest.invariant (signed_some (to_z w64 c.loop-rest.rest-bits))
    (c.in_err-write_byte.ensures {u = tt}))

pub loop-rest-preserved : goal.loop-rest-preserved
loop-rest-preserved c =
    let z = to_z w64 c.loop-rest.rest-bits in
    let m : FitsSigned w64 c.rem_euclid.result = search rules in
    let f : FitsSigned w64 c.div_euclid-rest.result = search rules in
    let outside : (int_lt z (negsuc 63) ≡ true) ⊎ (int_lt (pos 63) z ≡ true) = elim c.if-rest-lt-LEAST.branch [
      | then-rest-lt-LEAST w ↦ inl w.if-rest-lt-LEAST.true
      | else-rest-lt-LEAST+then-rest-gt-MOST w ↦ inr w.if-rest-gt-MOST.true
    ] in
    let r = ap signed (sym c.div_euclid-rest.ensures ∙ sym (to_z-of_z w64 c.div_euclid-rest.result f)) in
    let b : 128 + low_bits z ≡ unsigned_abs (to_z w64 (of_z w64 c.rem_euclid.result)) + 128 = add_comm 128 (low_bits z)
    ∙ ap (λ y. unsigned_abs y + 128) (sym (to_z-of_z w64 c.rem_euclid.result m ∙ c.rem_euclid.ensures.value)) in
    let e = signed_more z outside ∙ ap (λ d. d ∷ signed (high_bits z)) b ∙ ap (λ d. (unsigned_abs (to_z w64 (of_z w64 c.rem_euclid.result)) + 128) ∷ d) r in
    towards_next _ _ _ _ _ _ _ c.loop-rest.invariant e (c.in_ok-write_byte.ensures {u = tt})

pub returns : goal.returns
returns c =
    let z = to_z w64 c.loop-rest.rest-bits in
    let m : FitsSigned w64 c.rem_euclid-2.result = search rules in
    let n = to_z-of_z w64 c.args.n c.ranges.n in
    let e = signed_last z c.if-rest-lt-LEAST.false c.if-rest-gt-MOST.false
    ∙ ap (λ y. unsigned_abs y ∷ []) (sym (to_z-of_z w64 c.rem_euclid-2.result m ∙ c.rem_euclid-2.ensures.value)) in
    subst (λ (y : ℤ). Puts c.write_byte-2.result c.args.out.now c.write_byte-2.new.out (s y)) n
    (towards_end c.write_byte-2.result _ _ _ _ _ _ c.loop-rest.invariant e c.write_byte-2.ensures)
