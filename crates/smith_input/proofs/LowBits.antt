-- The lowest bits of a byte, and what they are as a remainder.
use Rattle.std.proofs.Common.{◌≡◌, ℕ, zero, suc, ◌+◌, ◌-◌, ◌*◌, ◌^◌, ◌<◌, ◌≤◌, ◌%◌, ◌↔◌, Bool, true, false, List, refl, sym, ap, ◌∙◌, arith, max, min, ⊎_elim}
use Rattle.std.proofs.Common.{IsTrue, nat_eq, not, slice_index, subst}
use Rattle.std.proofs.Math.Nat.{mod-eq_of_lt, mod-lt, pow-le-pow_right, pow-suc}
use Rattle.std.proofs.lemmas.Bool.Decides.{nat_tests}
use Rattle.std.proofs.lemmas.Bool.{cases_lt}
use Rattle.std.proofs.lemmas.Grind.{one_shifted}
use Rattle.std.proofs.lemmas.Nat.{and_mask}
use Rattle.std.specs.Int.Bits.{bit_and}
use Rattle.smith_input.specs.Reading.{Flips, GoesOn, one_ends_in}

-- the mask of so many of the lowest bits, of 8 at most and one at least
pub low_bits : (byte bits : ℕ) → byte < 256 → bit_and byte (2 ^ min (max bits 1) 8 - 1) ≡ byte % one_ends_in bits
low_bits byte bits small = and_mask byte (min (max bits 1) 8) ∙ by_size bits
  where
    within : (k : ℕ) → k < 8 → byte % 2 ^ min (max (suc k) 1) 8 ≡ byte % (2 * 2 ^ k)
    within k few =
        ap (λ n. byte % 2 ^ n) (let is : min (max (suc k) 1) 8 ≡ suc k = grind arith in is)
        ∙ ap (λ n. byte % n) (let is : 2 ^ suc k ≡ 2 * 2 ^ k = omega (arith, pow-suc 2 k) in is)

    beyond : (k : ℕ) → 8 ≤ k → byte % 2 ^ min (max (suc k) 1) 8 ≡ byte % (2 * 2 ^ k)
    beyond k many =
        let is : min (max (suc k) 1) 8 ≡ 8 = grind arith in
        let wide : 2 ^ 8 ≤ 2 ^ k = pow-le-pow_right (let z : 0 < 2 = omega arith in z) many in
        ap (λ n. byte % 2 ^ n) is ∙ (mod-eq_of_lt (let z : byte < 2 ^ 8 = omega (arith, small) in z) ∙ sym (mod-eq_of_lt (omega (arith, small, wide))))

    by_size : (bits : ℕ) → byte % 2 ^ min (max bits 1) 8 ≡ byte % one_ends_in bits
    by_size zero = refl
    by_size (suc k) =
        ⊎_elim (within k) (beyond k) (cases_lt k 8) ∙ ap (λ n. byte % (2 * 2 ^ n)) (let is : k ≡ suc k - 1 = omega arith in is)

-- One bit is a boolean.
pub one_bit : (bytes : List ℕ) (answer : Bool) (rest : List ℕ) → GoesOn 1 bytes answer rest ↔ Flips bytes answer rest
one_bit bytes answer rest = (to, from)
  where
    below : slice_index bytes 0 % 2 < 2
    below = mod-lt (slice_index bytes 0) (omega arith)

    to : GoesOn 1 bytes answer rest → Flips bytes answer rest
    to g = record { bit = (λ t. (let z = g.bit.0 t in omega (arith, z, below)), λ e. g.bit.1 (omega (arith, e))); left = g.left }

    from : Flips bytes answer rest → GoesOn 1 bytes answer rest
    from f = record { bit = (λ t. (let z = f.bit.0 t in omega (arith, z)), λ lt. f.bit.1 (omega (arith, lt, below))); left = f.left }

-- A byte has one of these bits.
pub has_one : (byte x bits k : ℕ) → byte < 256 → x ≡ byte → k ≡ min (max bits 1) 8
    → IsTrue (not (nat_eq (bit_and x (1 * 2 ^ k % 4294967296 - 1)) 0)) ↔ (0 < byte % one_ends_in bits)
has_one byte x bits k small e is = subst (λ n. IsTrue (not (nat_eq n 0)) ↔ (0 < byte % one_ends_in bits)) (sym same) (tests (byte % one_ends_in bits))
  where
    few : k < 32
    few = grind (arith, is)

    same : bit_and x (1 * 2 ^ k % 4294967296 - 1) ≡ byte % one_ends_in bits
    same =
        ap (λ n. bit_and x (n - 1)) (one_shifted k 4294967295 refl few).0
        ∙ (ap (λ y. bit_and y (2 ^ k - 1)) e ∙ (ap (λ n. bit_and byte (2 ^ n - 1)) is ∙ low_bits byte bits small))

    tests : (m : ℕ) → IsTrue (not (nat_eq m 0)) ↔ (0 < m)
    tests m = (λ h. grind (arith, nat_tests, h), λ h. grind (arith, nat_tests, h))
