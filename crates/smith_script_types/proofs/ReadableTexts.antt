-- Texts that can be read, as the writer finds them.
use Rattle.std.proofs.Common.{◌≡◌, ℕ, zero, suc, ◌+◌, ◌-◌, ◌*◌, ◌/◌, ◌%◌, ◌<◌, ◌≤◌, ◌^◌, Bool, true, false, List}
use Rattle.std.proofs.Common.{[], ◌∷◌, length, take, refl, ap, sym, ◌∙◌, arith}
use Rattle.std.proofs.Common.{length-append}
use Rattle.std.proofs.lemmas.List.{length-take-le, take_all, take-take}
use Rattle.std.proofs.lemmas.Fmt.{decimal_digit, decimal_step, length-decimal-le}
use Rattle.std.specs.Fmt.{decimal}
use Rattle.std.specs.Prelude.{if◌then◌else◌}
use Rattle.std.proofs.Common.{◌&&◌, ◌||◌, bytes_eq, drop, get_or, nat_eq}
use Rattle.std.proofs.lemmas.Bool.Decides.{nat_tests}
use Rattle.std.specs.List.{ends_with}
use Rattle.smith_input.specs.NameScript.{first_readable, last_word_is_a}

-- decimal digits

pub few_digits : (n : ℕ) → n < 2 ^ 64 → length (decimal n) ≤ 20
few_digits n h = length-decimal-le 20 n (omega arith) (omega (arith, h)) h

-- step by step

module _ (can_read : List ℕ → Bool) (digits : ℕ) where
  pub first_here : (fuel : ℕ) (name : List ℕ) → can_read name ≡ true → first_readable can_read digits fuel name ≡ name
  first_here zero name c = refl
  first_here (suc fuel) name c = ap (λ b. if b then name else first_readable can_read digits fuel (take (length name - digits) name)) c

  pub first_further : (fuel less : ℕ) (name : List ℕ) → fuel ≡ less + 1 → can_read name ≡ false
      → first_readable can_read digits fuel name ≡ first_readable can_read digits less (take (length name - digits) name)
  first_further zero less name e c = absurd (omega (arith, e))
  first_further (suc fuel) less name e c =
      let same : fuel ≡ less = omega (arith, e) in
      ap (λ b. if b then name else first_readable can_read digits fuel (take (length name - digits) name)) c
      ∙ ap (λ n. first_readable can_read digits n (take (length name - digits) name)) same

  -- as often as what is left is too long
  module _ (some : 0 < digits) (longest : ℕ) (longs : (text : List ℕ) → longest + 1 < length text → can_read text ≡ false) where
    pub first_cut : (cuts fuel : ℕ) (name : List ℕ) → cuts ≤ fuel → cuts * digits ≤ length name - (longest + 1)
        → first_readable can_read digits fuel name ≡ first_readable can_read digits (fuel - cuts) (take (length name - cuts * digits) name)
    first_cut zero fuel name f long =
        let all : take (length name - 0 * digits) name ≡ name = take_all (length name - 0 * digits) name (omega arith) in
        let whole : fuel ≡ fuel - 0 = omega arith in
        ap (λ n. first_readable can_read digits n name) whole ∙ ap (first_readable can_read digits (fuel - 0)) (sym all)
    first_cut (suc cuts) fuel name f long =
        let left = take (length name - cuts * digits) name in
        let many : length left ≡ length name - cuts * digits = length-take-le (length name - cuts * digits) name (omega arith) in
        let shorter : length left - digits ≡ length name - suc cuts * digits = omega (arith, many) in
        first_cut cuts fuel name (omega (arith, f)) (omega (arith, long))
        ∙ (first_further (fuel - cuts) (fuel - suc cuts) left (omega (arith, f)) (longs left (omega (arith, many, long, some)))
        ∙ ap (first_readable can_read digits (fuel - suc cuts))
        (ap (λ n. take n left) shorter ∙ take-take (length name - suc cuts * digits) (length name - cuts * digits) name (omega arith)))

-- `a` is the last word of a name that is it, and of one that ends in a hyphen and it.
pub last_a : (text : List ℕ) → last_word_is_a text ≡ ((nat_eq (length text) 1 && nat_eq (get_or text 0 0) 97) || ends_with nat_eq text (45 ∷ 97 ∷ []))
last_a [] = refl
last_a (c ∷ []) = grind (arith, nat_tests)
last_a (c ∷ d ∷ text) =
    let behind : length (45 ∷ c ∷ d ∷ text) - 2 ≡ suc (length (c ∷ d ∷ text) - 2) = omega arith in
    let many : nat_eq (length (c ∷ d ∷ text)) 1 ≡ false = grind (arith, nat_tests) in
    ap (λ n. bytes_eq (45 ∷ 97 ∷ []) (drop n (45 ∷ c ∷ d ∷ text))) behind
    ∙ ap (λ b. (b && nat_eq c 97) || ends_with nat_eq (c ∷ d ∷ text) (45 ∷ 97 ∷ [])) (sym many)
