-- Powers of 256, and what bytes spell.
use Rattle.std.proofs.Common.{◌≡◌, ℕ, zero, suc, ◌+◌, ◌*◌, ◌/◌, ◌%◌, ◌^◌, ◌<◌, ◌≤◌, List, [], ◌∷◌, drop, get_or, refl, ap, ◌∙◌, arith}
use Rattle.std.proofs.Math.Nat.{mul-le-mul_left, mul-le-mul_right, pow-suc, pow-le-pow_right}
use Rattle.std.proofs.Math.Numerals.{add-one}
use Rattle.std.proofs.lemmas.Nat.{div-add-mod', mod_below}
use Rattle.smith_input.specs.Reading.{spelled, IsWidth, Reads}

pub power_more : (k : ℕ) → 256 ^ (k + 1) ≡ 256 ^ k * 256
power_more k = rw add-one (pow-suc 256 k)

pub powers_rise : (i j : ℕ) → i ≤ j → 256 ^ i ≤ 256 ^ j
powers_rise i j h = let z : 0 < 256 = omega arith in pow-le-pow_right z h

-- one more byte at the end
pub spelled_last : (w : ℕ) (bytes : List ℕ) → spelled (suc w) bytes ≡ spelled w bytes * 256 + get_or bytes w 0
spelled_last zero [] = refl
spelled_last zero (x ∷ bytes) = omega arith
spelled_last (suc w) [] = refl
spelled_last (suc w) (x ∷ bytes) = omega (arith, spelled_last w bytes, ap (λ p. x * p) (pow-suc 256 w))

pub spelled_more : (w : ℕ) (bytes : List ℕ) → spelled (w + 1) bytes ≡ spelled w bytes * 256 + get_or bytes w 0
spelled_more w bytes = rw add-one (spelled_last w bytes)

-- one byte fits after w bytes
pub byte_fits : (n w b : ℕ) → n < 256 ^ w → b < 256 → n * 256 + b < 256 ^ (w + 1)
byte_fits n w b h k = omega (arith, power_more w)

pub fits_eight : (n w : ℕ) → w < 8 → n < 256 ^ w → n * 256 + 255 < 2 ^ 64
fits_eight n w h k = omega (arith, byte_fits n w 255 k (omega arith), powers_rise (w + 1) 8 (omega arith))

-- a remainder is a choice
pub reads_rest : (n w : ℕ) (bytes rest : List ℕ) (number : ℕ) → 0 < n → IsWidth n w → number ≡ spelled w bytes → rest ≡ drop w bytes
    → Reads n bytes (number % n) rest
reads_rest n w bytes rest number z i e d = record {
  width = w;
  is_width = i;
  below = mod_below number n z;
  turns = number / n;
  spells = omega (arith, e, div-add-mod' number n);
  left = d;
}

-- one byte tells up to 256 things apart
pub one_byte : (n : ℕ) → 1 < n → n ≤ 256 → IsWidth n 1
one_byte n h k = record { enough = k; least = λ v le. above_none v le } where
  above_none : (v : ℕ) → n ≤ 256 ^ v → 1 ≤ v
  above_none zero le = absurd (omega arith)
  above_none (suc v) le = omega arith

pub one_byte_chosen : (n byte : ℕ) {bytes rest : List ℕ} → 1 < n → n ≤ 256 → byte ≡ get_or bytes 0 0 → rest ≡ drop 1 bytes → Reads n bytes (byte % n) rest
one_byte_chosen n byte {bytes} {rest} h k v d =
    reads_rest n 1 bytes rest byte (omega arith) (one_byte n h k) (omega (arith, v, spelled_more 0 bytes)) d

-- what f computes at each of n places from one on
unfoldable pub tabulate : (ℕ → ℕ) → ℕ → ℕ → List ℕ
tabulate f at zero = []
tabulate f at (suc n) = f at ∷ tabulate f (suc at) n

pub tabulated : (f : ℕ → ℕ) (at n k : ℕ) → k < n → get_or (tabulate f at n) k 0 ≡ f (at + k)
unfolding tabulate
tabulated f at zero k h = absurd (omega arith)
tabulated f at (suc n) zero h = ap f (let z : at ≡ at + 0 = omega arith in z)
tabulated f at (suc n) (suc k) h = tabulated f (suc at) n k (omega arith) ∙ ap f (let z : suc at + k ≡ at + suc k = omega arith in z)

-- the reciprocal of a number, to 16 bits
abbrev pub reciprocal : ℕ → ℕ
reciprocal n = 65536 / n + 1

-- Multiplying a byte by the reciprocal of a number of at most 256 divides it by that number.
pub quotient_is : (n byte : ℕ) → 1 < n → n ≤ 256 → byte < 256 → byte * reciprocal n / 65536 ≡ byte / n
quotient_is n byte some most small =
    let k = byte / n in
    let r = byte % n in
    let d = 65536 / n in
    let s = 65536 % n in
    let is : k * n + r ≡ byte = div-add-mod' byte n in
    let whole : d * n + s ≡ 65536 = div-add-mod' 65536 n in
    let r_below : r < n = mod_below byte n (omega arith) in
    let s_below : s < n = mod_below 65536 n (omega arith) in
    let least : 256 ≤ d = omega (arith, whole, s_below, mul-le-mul_left d most) in
    let product : (k * n + r) * d ≡ byte * d = ap (λ x. x * d) is in
    let parts : k * (d * n + s) ≡ k * 65536 = ap (λ x. k * x) whole in
    let fewer : k * s ≤ k * n = mul-le-mul_left k (let le : s ≤ n = omega (arith, s_below) in le) in
    let scaled : (r + 1) * d ≤ n * d = mul-le-mul_right d (let le : r + 1 ≤ n = omega (arith, r_below) in le) in
    let low : k * 65536 ≤ byte * reciprocal n = omega (arith, product, parts, fewer, is) in
    let high : byte * reciprocal n < (k + 1) * 65536 = omega (arith, product, parts, scaled, whole, least, is) in
    omega (arith, low, high)
