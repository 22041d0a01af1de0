-- What holds of each item of a list, and how many items there are.
use Rattle.std.proofs.Common.{◌≡◌, ℕ, zero, suc, ◌≤◌, true, List, [], ◌∷◌, ◌++◌, length, nat_lt, subst, arith, ◌+◌, ◌<◌, drop, get_or, map, refl, sym}
use Rattle.std.proofs.lemmas.Bool.{lt-ltb}
use Rattle.std.proofs.lemmas.Option.{none-some, slice_get_within}
use Rattle.std.specs.List.{AllByRecursion}
use Rattle.std.specs.Option.{option_to_list}
use Rattle.std.specs.Prelude.{Option, Some, None, slice_get}

module _ {A : Type 0} (P : A → Type 0) where
  -- What holds of all items of two lists in a row holds of all items of each, and the other way round.
  pub all_front : (xs ys : List A) → AllByRecursion P (xs ++ ys) → AllByRecursion P xs
  all_front [] ys h = tt
  all_front (x ∷ xs) ys h = (h.0, all_front xs ys h.1)

  pub all_back : (xs ys : List A) → AllByRecursion P (xs ++ ys) → AllByRecursion P ys
  all_back [] ys h = h
  all_back (x ∷ xs) ys h = all_back xs ys h.1

  pub all_both : (xs ys : List A) → AllByRecursion P xs → AllByRecursion P ys → AllByRecursion P (xs ++ ys)
  all_both [] ys h k = k
  all_both (x ∷ xs) ys h k = (h.0, all_both xs ys h.1 k)

  -- What holds of each item holds of the one at an index.
  pub all_at : (xs : List A) (i : ℕ) (x : A) → AllByRecursion P xs → slice_get xs i ≡ Some x → P x
  all_at [] i x all e = absurd (none-some x e)
  all_at (y ∷ ys) zero x all e = let same : y ≡ x = cc in subst P same all.0
  all_at (y ∷ ys) (suc i) x all e = all_at ys i x all.1 e

-- A list with an item at an index is not empty.
pub some_there : {A : Type 0} (xs : List A) (i : ℕ) (x : A) → slice_get xs i ≡ Some x → nat_lt 0 (length xs) ≡ true
some_there xs i x e = lt-ltb 0 (length xs) (omega (arith, slice_get_within xs i x e))

-- An optional item is one item at most.
pub one_at_most : {A : Type 0} (o : Option A) → length (option_to_list o) ≤ 1
one_at_most None = omega arith
one_at_most (Some x) = omega arith

pub map_drop : {A B : Type 0} (f : A → B) (xs : List A) (i : ℕ) (x : A) → i < length xs → x ≡ get_or xs i x
    → map f (drop i xs) ≡ f x ∷ map f (drop (i + 1) xs)
map_drop f [] i x h e = absurd (omega arith)
map_drop f (y ∷ xs) zero x h e = let same = sym e in λ j. f (same j) ∷ map f xs
map_drop f (y ∷ xs) (suc i) x h e = let more : suc i + 1 ≡ suc (i + 1) = omega arith in rw more (map_drop f xs i x (omega arith) e)

pub map_dropped : {A B : Type 0} (f : A → B) (xs : List A) (i : ℕ) → length xs ≤ i → map f (drop i xs) ≡ []
map_dropped f [] zero h = refl
map_dropped f [] (suc i) h = refl
map_dropped f (y ∷ xs) zero h = absurd (omega arith)
map_dropped f (y ∷ xs) (suc i) h = map_dropped f xs i (omega arith)
