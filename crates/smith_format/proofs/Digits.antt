-- The digits of a number, one after another.
use Rattle.std.proofs.Common.{◌≡◌, ℕ, zero, suc, ◌+◌, ◌*◌, ◌/◌, ◌%◌, ◌^◌, ◌<◌, ◌≤◌, ◌⊎◌, inl, inr, [], ◌∷◌, length, refl, ap, sym, ◌∙◌, arith, true}
use Rattle.std.proofs.Common.{false, ℤ, pos, negsuc, ⊎_elim}
use Rattle.std.proofs.lemmas.Bool.{cases_lt, cond_below, cond_above, ltb-false}
use Rattle.std.proofs.Math.Nat.{pow-suc, mul_assoc, mul_comm}
use Rattle.std.proofs.lemmas.Int.{ints}
use Rattle.std.specs.Prelude.{◌≤ℤ◌, ◌<ℤ◌, int_lt}
use Rattle.std.specs.Int.RustNames.{FitsSigned}
use Rattle.std.specs.Int.{w64}
use borrow.Author.Tests.{ltb-true}
use Rattle.smith_format.specs.Numbers.{digits, unsigned, signed, as_it_is, turned}
use Rattle.smith_format.specs.Division.{low_bits, high_bits}

module _ (bits : ℕ → ℕ) (last : ℕ) where
  pub digits_last : (more n : ℕ) → n < last → digits bits last more n ≡ bits n ∷ []
  unfolding digits
  digits_last zero n h = refl
  digits_last (suc more) n h = sym (cond_below n last (bits n ∷ []) _ h)

  pub digits_more : (more n : ℕ) → last ≤ n → digits bits last (suc more) n ≡ (128 + bits (n % 128)) ∷ digits bits last more (n / 128)
  unfolding digits
  digits_more more n h = sym (cond_above n last (bits n ∷ []) _ _ h refl)

  -- a number has no more digits than its value
  pub digits_enough : (j k n : ℕ) → 0 < last → n ≤ j → n ≤ k → digits bits last j n ≡ digits bits last k n
  digits_enough zero k n h f g = digits_last zero n (omega arith) ∙ sym (digits_last k n (omega arith))
  digits_enough (suc j) zero n h f g = digits_last (suc j) n (omega arith) ∙ sym (digits_last zero n (omega arith))
  digits_enough (suc j) (suc k) n h f g =
      ⊎_elim
      (λ l. digits_last (suc j) n l ∙ sym (digits_last (suc k) n l))
      (λ l. digits_more j n l ∙ ap (λ d. (128 + bits (n % 128)) ∷ d) (digits_enough j k (n / 128) h (omega arith) (omega arith)) ∙ sym (digits_more k n l))
      (cases_lt n last)

  pub digits_next : (n : ℕ) → 0 < last → last ≤ n → digits bits last n n ≡ (128 + bits (n % 128)) ∷ digits bits last (n / 128) (n / 128)
  digits_next zero h l = absurd (omega arith)
  digits_next (suc m) h l = digits_more m (suc m) l ∙ ap (λ d. (128 + bits (suc m % 128)) ∷ d)
      (digits_enough m (suc m / 128) (suc m / 128) h (omega arith) (omega arith))

  pub digits_some : (more n : ℕ) → 0 < length (digits bits last more n)
  unfolding digits
  digits_some zero n = omega arith
  digits_some (suc more) n =
      ⊎_elim
      (λ l. let q = ap length (digits_last (suc more) n l) in omega arith)
      (λ l. let q = ap length (digits_more more n l) in omega arith)
      (cases_lt n last)

  grow : (k : ℕ) → last * 128 ^ suc k ≡ 128 * (last * 128 ^ k)
  grow k = ap (λ p. last * p) (pow-suc 128 k) ∙ sym (mul_assoc last (128 ^ k) 128) ∙ mul_comm (last * 128 ^ k) 128

  -- a number below a power has few digits
  pub digits_short : (k more n : ℕ) → n < last * 128 ^ k → length (digits bits last more n) ≤ suc k
  unfolding digits
  digits_short k zero n h = omega arith
  digits_short zero (suc more) n h = let q = ap length (digits_last (suc more) n (omega arith)) in omega arith
  digits_short (suc k) (suc more) n h =
      ⊎_elim
      (λ l. let q = ap length (digits_last (suc more) n l) in omega arith)
      (λ l. let q = ap length (digits_more more n l) in let r = digits_short k more (n / 128) (let g = grow k in omega arith) in omega arith)
      (cases_lt n last)

-- unsigned numbers
pub unsigned_last : (n : ℕ) → n < 128 → unsigned n ≡ n ∷ []
unfolding unsigned
unsigned_last n h = digits_last as_it_is 128 n n h

pub unsigned_more : (n : ℕ) → 128 ≤ n → unsigned n ≡ (128 + n % 128) ∷ unsigned (n / 128)
unfolding unsigned
unsigned_more n h = digits_next as_it_is 128 n (omega arith) h

pub unsigned_some : (n : ℕ) → 0 < length (unsigned n)
unfolding unsigned
unsigned_some n = digits_some as_it_is 128 n n

pub unsigned_short_32 : (n : ℕ) → n < 2 ^ 32 → length (unsigned n) ≤ 5
unfolding unsigned
unsigned_short_32 n h = digits_short as_it_is 128 4 n n (omega arith)

pub unsigned_short_64 : (n : ℕ) → n < 2 ^ 64 → length (unsigned n) ≤ 10
unfolding unsigned
unsigned_short_64 n h = digits_short as_it_is 128 9 n n (omega arith)

-- signed numbers, from -64 to 63 and others
pub signed_last : (z : ℤ) → int_lt z (negsuc 63) ≡ false → int_lt (pos 63) z ≡ false → signed z ≡ low_bits z ∷ []
unfolding signed
signed_last (pos n) l h = let f : n ≤ 63 = ltb-false 63 n h in digits_last as_it_is 64 n n (omega arith) ∙ ap (λ d. d ∷ []) (omega arith)
signed_last (negsuc n) l h = let f : n ≤ 63 = ltb-false 63 n l in digits_last turned 64 n n (omega arith) ∙ ap (λ d. d ∷ []) (omega arith)

pub signed_more : (z : ℤ) → (int_lt z (negsuc 63) ≡ true) ⊎ (int_lt (pos 63) z ≡ true) → signed z ≡ (128 + low_bits z) ∷ signed (high_bits z)
unfolding signed
signed_more (pos n) (inl h) = cc
signed_more (pos n) (inr h) = digits_next as_it_is 64 n (omega arith) (ltb-true 63 n h)
signed_more (negsuc n) (inl h) = digits_next turned 64 n (omega arith) (ltb-true 63 n h)
signed_more (negsuc n) (inr h) = cc

pub signed_last_le : (z : ℤ) → negsuc 63 ≤ℤ z → z ≤ℤ pos 63 → signed z ≡ low_bits z ∷ []
signed_last_le z l h = signed_last z (grind (arith, ints)) (grind (arith, ints))

pub signed_more_lt : (z : ℤ) → (z <ℤ negsuc 63) ⊎ (pos 63 <ℤ z) → signed z ≡ (128 + low_bits z) ∷ signed (high_bits z)
signed_more_lt z (inl h) = signed_more z (inl (grind (arith, ints)))
signed_more_lt z (inr h) = signed_more z (inr (grind (arith, ints)))

pub signed_some : (z : ℤ) → 0 < length (signed z)
unfolding signed
signed_some (pos n) = digits_some as_it_is 64 n n
signed_some (negsuc n) = digits_some turned 64 n n

pub signed_short : (z : ℤ) → FitsSigned w64 z → length (signed z) ≤ 10
unfolding signed
signed_short (pos n) h = let f : n < 64 * 128 ^ 9 = omega (arith, h) in digits_short as_it_is 64 9 n n f
signed_short (negsuc n) h = let f : n < 64 * 128 ^ 9 = omega (arith, h) in digits_short turned 64 9 n n f

pub signed_index_short : (n : ℕ) → n < 2 ^ 32 → length (signed (pos n)) ≤ 5
unfolding signed
signed_index_short n h = digits_short as_it_is 64 4 n n (omega arith)
