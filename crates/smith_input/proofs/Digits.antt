-- The decimal digits of a number, of any size.
use Rattle.std.proofs.Common.{ℕ, zero, suc, ◌/◌, ◌%◌, ◌<◌, inr, Bool, true, false, if◌then◌else◌, List, [], ◌∷◌, length, arith, ◌≡◌, ◌+◌, ◌≤◌, ◌^◌, ap, ◌∙◌}
use Rattle.std.proofs.Common.{length-append}
use Rattle.std.specs.Prelude.{◌==◌}
use Rattle.std.specs.Fmt.{decimal, digits, digits_onto, digit_glyph}
use Rattle.std.specs.List.{AllByRecursion}
use Rattle.std.specs.Str.{IsAscii}
use Rattle.std.proofs.lemmas.Bool.Decides.{nat_tests}
use Rattle.smith_input.specs.Kebab.{IsDigit, AreInWord}
use Rattle.std.proofs.lemmas.Fmt.{decimal_digit, decimal_step}

abbrev pub AreDigits : List ℕ → Type 0
AreDigits ds = AllByRecursion IsDigit ds

digit_is : (n : ℕ) → IsDigit (digit_glyph false (n % 10))
digit_is n = (grind (arith, nat_tests), grind (arith, nat_tests))

-- what holds with each digit more, holds of all the digits
onto : (P : List ℕ → Type 0) → ((n : ℕ) (ds : List ℕ) → P ds → P (digit_glyph false (n % 10) ∷ ds)) → (k n : ℕ) (ds : List ℕ) → P ds
    → P (digits_onto k 10 false n ds)
onto P more zero n ds p = p
onto P more (suc k) n ds p = by_test (n / 10 == 0) (more n ds p) (onto P more k (n / 10) (digit_glyph false (n % 10) ∷ ds) (more n ds p))
  where
    by_test : (b : Bool) → P (digit_glyph false (n % 10) ∷ ds) → P (digits_onto k 10 false (n / 10) (digit_glyph false (n % 10) ∷ ds))
        → P (if b then digit_glyph false (n % 10) ∷ ds else digits_onto k 10 false (n / 10) (digit_glyph false (n % 10) ∷ ds))
    by_test true here later = here
    by_test false here later = later

pub are_digits : (n : ℕ) → AreDigits (decimal n)
unfolding digits
are_digits n = onto AreDigits (λ m ds a. (digit_is m, a)) 64 n [] tt

pub some_digits : (n : ℕ) → 0 < length (decimal n)
unfolding digits
some_digits n = by_test (n / 10 == 0) (digit_glyph false (n % 10))
  where
    by_test : (b : Bool) (d : ℕ) → 0 < length (if b then d ∷ [] else digits_onto 63 10 false (n / 10) (d ∷ []))
    by_test true d = omega arith
    by_test false d = onto (λ ds. 0 < length ds) (λ m ds a. omega arith) 63 (n / 10) (d ∷ []) (omega arith)

pub digits_ascii : (ds : List ℕ) → AreDigits ds → IsAscii ds
digits_ascii [] d i = omega arith
digits_ascii (c ∷ cs) d zero = omega (arith, d.0)
digits_ascii (c ∷ cs) d (suc i) = digits_ascii cs d.1 i

pub digits_in_word : (ds : List ℕ) → AreDigits ds → AreInWord ds
digits_in_word [] d = tt
digits_in_word (c ∷ cs) d = (inr d.0, digits_in_word cs d.1)

pub one_digit : (n : ℕ) → n < 10 → length (decimal n) ≡ 1
one_digit n h = ap length (decimal_digit n h)

pub more_digits : (n : ℕ) → 10 ≤ n → n < 2 ^ 64 → length (decimal n) ≡ length (decimal (n / 10)) + 1
more_digits n h k = ap length (decimal_step n h k) ∙ length-append (decimal (n / 10)) ((48 + n % 10) ∷ [])
