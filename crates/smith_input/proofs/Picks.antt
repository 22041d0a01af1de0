-- Spelled picks.
use Rattle.std.proofs.Common.{◌∙◌, ap, ◌∷◌, [], ◌≡◌, ℕ, zero, suc, ◌+◌, ◌/◌, ◌%◌, ◌^◌, ◌<◌, ◌≤◌, List, ◌++◌, drop, refl, sym, arith, nat_le, Bool, true, false}
use Rattle.std.proofs.Common.{if◌then◌else◌}
use Rattle.std.proofs.lemmas.Bool.Decides.{nat_tests}
use Rattle.std.proofs.lemmas.Nat.{div-add-mod', mod_below}
use Rattle.std.proofs.Math.Nat.{pow-suc}
use Rattle.smith_input.specs.Reading.{spelled, IsWidth, Reads}
use Rattle.smith_input.specs.Script.{big_endian, width_within, pick}

pub powers_positive : (w : ℕ) → 0 < 256 ^ w
powers_positive zero = omega arith
powers_positive (suc w) = omega (arith, pow-suc 256 w, powers_positive w)

-- the bytes of a number spell it
pub spelled-big_endian : (w k : ℕ) (rest : List ℕ) → k < 256 ^ w → spelled w (big_endian w k ++ rest) ≡ k
spelled-big_endian zero k rest h = omega arith
spelled-big_endian (suc w) k rest h =
    let low : k % 256 ^ w < 256 ^ w = mod_below k (256 ^ w) (powers_positive w) in
    omega (arith, spelled-big_endian w (k % 256 ^ w) rest low, div-add-mod' k (256 ^ w))

pub drop-big_endian : (w k : ℕ) (rest : List ℕ) → drop w (big_endian w k ++ rest) ≡ rest
drop-big_endian zero k rest = refl
drop-big_endian (suc w) k rest = drop-big_endian w (k % 256 ^ w) rest

narrow : (n : ℕ) → n ≤ 1 → IsWidth n 0
narrow n h = record { enough = omega arith; least = λ v e. omega arith }

wide : (n w : ℕ) → 1 < n → IsWidth ((n + 255) / 256) w → IsWidth n (suc w)
wide n w h i = record { enough = omega (arith, pow-suc 256 w, i.enough); least = least_of }
  where
    least_of : (v : ℕ) → n ≤ 256 ^ v → suc w ≤ v
    least_of zero e = absurd (omega arith)
    least_of (suc v) e = let below : (n + 255) / 256 ≤ 256 ^ v = omega (arith, pow-suc 256 v) in omega (arith, i.least v below)

width_cases : (fuel n : ℕ) → (1 < n → IsWidth ((n + 255) / 256) (width_within fuel ((n + 255) / 256))) → (b : Bool) → nat_le n 1 ≡ b
    → IsWidth n (if b then 0 else suc (width_within fuel ((n + 255) / 256)))
width_cases fuel n more true e = narrow n (below_is n e)
  where
    below_is : (n : ℕ) → nat_le n 1 ≡ true → n ≤ 1
    below_is n e = grind (arith, nat_tests)
width_cases fuel n more false e = let h : 1 < n = above_is n e in wide n (width_within fuel ((n + 255) / 256)) h (more h)
  where
    above_is : (n : ℕ) → nat_le n 1 ≡ false → 1 < n
    above_is n e = grind (arith, nat_tests)

pub width_within-is : (fuel n : ℕ) → n ≤ 256 ^ fuel → IsWidth n (width_within fuel n)
width_within-is zero n h = narrow n (omega arith)
width_within-is (suc fuel) n h =
    width_cases fuel n (λ above. width_within-is fuel ((n + 255) / 256) (omega (arith, pow-suc 256 fuel))) (nat_le n 1) refl

-- a spelled pick is read as itself
pub reads-pick : (n k : ℕ) (rest : List ℕ) → n ≤ 2 ^ 64 → k < n → Reads n (pick n k ++ rest) k rest
unfolding pick
reads-pick n k rest h below =
    let w : IsWidth n (width_within 8 n) = width_within-is 8 n (omega arith) in
    let fits : k < 256 ^ width_within 8 n = omega (arith, w.enough) in
    record {
      width = width_within 8 n;
      is_width = w;
      below = below;
      turns = 0;
      spells = omega (arith, spelled-big_endian (width_within 8 n) k rest fits);
      left = sym (drop-big_endian (width_within 8 n) k rest);
    }

-- A pick among that many is one byte.
pub pick-byte : (n k : ℕ) → 2 ≤ n → n ≤ 256 → pick n k ≡ k ∷ []
unfolding pick
pick-byte n k two few =
    ap (λ b. big_endian (if b then 0 else suc (width_within 7 ((n + 255) / 256))) k) many
    ∙ (ap (λ m. big_endian (suc (width_within 7 m)) k) one ∙ ap (λ d. d ∷ []) (div-one k))
  where
    many : nat_le n 1 ≡ false
    many = grind (arith, nat_tests)

    one : (n + 255) / 256 ≡ 1
    one = omega arith

    div-one : (k : ℕ) → k / 1 ≡ k
    div-one k = omega arith
