-- Choices, characters and places as a script spells them.
use Rattle.std.proofs.Common.{◌≡◌, ℕ, zero, suc, ◌+◌, ◌-◌, ◌/◌, ◌%◌, ◌^◌, ◌<◌, ◌≤◌, List, [], ◌∷◌, ◌++◌, drop, length, refl, arith}
use Rattle.std.specs.Prelude.{slice_index}
use Rattle.smith_input.proofs.Widths.{powers_rise}
use Rattle.smith_input.specs.Script.{big_endian, code, pick, script_characters, width_within}

pub power_fits : (w : ℕ) → w ≤ 8 → 256 ^ (w - 1) < 18446744073709551616
power_fits w h = omega (arith, powers_rise (w - 1) 7 (omega arith))

pub power_positive : (w : ℕ) → 0 < 256 ^ w
power_positive w = omega (arith, powers_rise 0 w (omega arith))

pub big_endian_more : (w k first : ℕ) → 0 < w → first ≡ k / 256 ^ (w - 1) → first ∷ big_endian (w - 1) (k % 256 ^ (w - 1)) ≡ big_endian w k
big_endian_more zero k first h e = absurd (omega arith)
big_endian_more (suc w) k first h e = let less : suc w - 1 ≡ w = omega arith in rw (e, less) refl

pub pick_is : (n k : ℕ) → pick n k ≡ big_endian (width_within 8 n) k
unfolding pick
pick_is n k = refl

pub characters_at : (xs : List ℕ) (i : ℕ) → i < length xs
    → script_characters (drop i xs) ≡ pick 37 (code (slice_index xs i)) ++ script_characters (drop (i + 1) xs)
characters_at [] i h = absurd (omega arith)
characters_at (x ∷ xs) zero h = refl
characters_at (x ∷ xs) (suc i) h = let e : suc i + 1 ≡ suc (i + 1) = omega arith in rw e (characters_at xs i (omega arith))
