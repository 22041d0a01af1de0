-- What holds of each item of a list, and of two lists beside each other.
use Rattle.std.proofs.Common.{◌≡◌, ℕ, zero, suc, List, [], ◌∷◌, ◌++◌, refl, subst, Option, None, Some}
use Rattle.std.specs.List.{AllByRecursion, AllZip}
use Rattle.std.specs.Option.{option_to_list}
use Rattle.std.specs.Prelude.{slice_get}

pub all_by : {A : Type 0} (P Q : A → Type 0) → ((x : A) → P x → Q x) → (xs : List A) → AllByRecursion P xs → AllByRecursion Q xs
all_by P Q f [] h = tt
all_by P Q f (x ∷ xs) h = (f x h.0, all_by P Q f xs h.1)

pub zip_map : {A B : Type 0} (R S : A → B → Type 0) → ((x : A) (y : B) → R x y → S x y) → (xs : List A) (ys : List B) → AllZip R xs ys → AllZip S xs ys
zip_map R S f [] [] a = tt
zip_map R S f [] (y ∷ ys) a = absurd a
zip_map R S f (x ∷ xs) [] a = absurd a
zip_map R S f (x ∷ xs) (y ∷ ys) a = (f x y a.0, zip_map R S f xs ys a.1)

module _ {A B : Type 0} (R : A → B → Type 0) where
  pub zip_append : (xs us : List A) (ys vs : List B) → AllZip R xs ys → AllZip R us vs → AllZip R (xs ++ us) (ys ++ vs)
  zip_append [] us [] vs a b = b
  zip_append [] us (y ∷ ys) vs a b = absurd a
  zip_append (x ∷ xs) us [] vs a b = absurd a
  zip_append (x ∷ xs) us (y ∷ ys) vs a b = (a.0, zip_append xs us ys vs a.1 b)

  -- what there is with an index
  pub zip_at : (xs : List A) (ys : List B) (i : ℕ) → AllZip R xs ys → AllZip R (option_to_list (slice_get xs i)) (option_to_list (slice_get ys i))
  zip_at [] [] i a = tt
  zip_at [] (y ∷ ys) i a = absurd a
  zip_at (x ∷ xs) [] i a = absurd a
  zip_at (x ∷ xs) (y ∷ ys) zero a = (a.0, tt)
  zip_at (x ∷ xs) (y ∷ ys) (suc i) a = zip_at xs ys i a.1

  -- what there is with an index in the list with another
  pub zip_within : {X Y : Type 0} (f : X → List A) (g : Y → List B) (xs : List X) (ys : List Y) (count i : ℕ) → AllZip (λ x y. AllZip R (f x) (g y)) xs ys
      → AllZip R (option_to_list (elim (slice_get xs count) as (λ o. Option A) [ None ↦ None | Some x ↦ slice_get (f x) i ]))
      (option_to_list (elim (slice_get ys count) as (λ o. Option B) [ None ↦ None | Some y ↦ slice_get (g y) i ]))
  zip_within f g [] [] count i a = tt
  zip_within f g [] (y ∷ ys) count i a = absurd a
  zip_within f g (x ∷ xs) [] count i a = absurd a
  zip_within f g (x ∷ xs) (y ∷ ys) zero i a = zip_at (f x) (g y) i a.0
  zip_within f g (x ∷ xs) (y ∷ ys) (suc count) i a = zip_within f g xs ys count i a.1

-- what is beside an item
pub record Beside {A B : Type 0} (R : A → B → Type 0) (x : A) (ys : List B) (i : ℕ) : Type 0 where
  pub item : B
  pub at : slice_get ys i ≡ Some item
  pub is : R x item

module _ {A B : Type 0} (R : A → B → Type 0) where
  pub beside : (xs : List A) (ys : List B) (i : ℕ) (x : A) → AllZip R xs ys → Some x ≡ slice_get xs i → Beside R x ys i
  beside [] ys i x a e = absurd (let z : Some x ≡ None = e in cc)
  beside (y ∷ xs) [] i x a e = absurd a
  beside (y ∷ xs) (z ∷ ys) zero x a e =
      let w : Some x ≡ Some y = e in let v : y ≡ x = cc in
      record { item = z; at = refl; is = subst (λ k. R k z) v a.0 }
  beside (y ∷ xs) (z ∷ ys) (suc i) x a e = let b = beside xs ys i x a.1 e in record { item = b.item; at = b.at; is = b.is }

  pub none_beside : (xs : List A) (ys : List B) (i : ℕ) → AllZip R xs ys → None ≡ slice_get xs i → slice_get ys i ≡ None
  none_beside [] [] i a e = refl
  none_beside [] (y ∷ ys) i a e = absurd a
  none_beside (x ∷ xs) [] i a e = refl
  none_beside (x ∷ xs) (y ∷ ys) zero a e = absurd (let z : None ≡ Some x = e in cc)
  none_beside (x ∷ xs) (y ∷ ys) (suc i) a e = none_beside xs ys i a.1 e
