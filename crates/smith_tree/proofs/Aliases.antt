-- The outer aliases that are offered: how many there are, and what is at each index.
use Rattle.std.proofs.Common.{◌≡◌, ℕ, zero, suc, ◌+◌, None, Some, List, [], ◌∷◌, length, sym, ap, ◌∙◌, refl, arith, length-append}
use Rattle.std.specs.Prelude.{slice_get}
use Rattle.smith_syntax.specs.Marked.{Marked}
use Rattle.smith_tree.specs.TypeOffers.{numbered, aliases_of}

module _ {A B : Type 0} (f : ℕ → A → B) where
  pub length-numbered : (i : ℕ) (xs : List A) → length (numbered f i xs) ≡ length xs
  length-numbered i [] = refl
  length-numbered i (x ∷ xs) = ap suc (length-numbered (i + 1) xs)

  numbered_at : (i : ℕ) (xs : List A) (k : ℕ) (x : A) → slice_get xs k ≡ Some x → slice_get (numbered f i xs) k ≡ Some (f (i + k) x)
  numbered_at i [] k x e = absurd (cc)
  numbered_at i (y ∷ xs) zero x e = let h : y ≡ x = cc in ap (λ z. Some (f i z)) h ∙ ap (λ n. Some (f n x)) (let z : i ≡ i + 0 = omega arith in z)
  numbered_at i (y ∷ xs) (suc k) x e = numbered_at (i + 1) xs k x e ∙ ap (λ n. Some (f n x)) (let z : i + 1 + k ≡ i + suc k = omega arith in z)

  numbered_later : (i : ℕ) (xs : List A) (k : ℕ) (y : B) → slice_get (numbered f i xs) k ≡ Some y → (x : A) × (slice_get xs k ≡ Some x) × (y ≡ f (i + k) x)
  numbered_later i [] k y e = absurd (let z : None ≡ Some y = e in cc)
  numbered_later i (x ∷ xs) zero y e = let z : f i x ≡ y = cc in let at : i ≡ i + 0 = omega arith in (x, refl, sym z ∙ ap (λ m. f m x) at)
  numbered_later i (x ∷ xs) (suc k) y e =
      let r = numbered_later (i + 1) xs k y e in
      let at : i + 1 + k ≡ i + suc k = omega arith in
      (r.0, r.1, r.2 ∙ ap (λ m. f m r.0) at)

  pub numbered_here : (xs : List A) (k : ℕ) (x : A) → slice_get xs k ≡ Some x → slice_get (numbered f 0 xs) k ≡ Some (f k x)
  numbered_here xs k x e = numbered_at 0 xs k x e ∙ ap (λ n. Some (f n x)) (let z : 0 + k ≡ k = omega arith in z)

  pub numbered_stands : (xs : List A) (k : ℕ) (y : B) → slice_get (numbered f 0 xs) k ≡ Some y → (x : A) × (slice_get xs k ≡ Some x) × (y ≡ f k x)
  numbered_stands xs k y e = grind (arith, numbered_later)

-- how many entries a scope has
pub length-aliases : (count : ℕ) (s : Marked) → length (aliases_of count s) ≡ length s.types + length s.core_types
length-aliases count s = grind (arith, length-append, length-numbered)
