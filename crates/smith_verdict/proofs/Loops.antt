-- Loops that find whether all items have a property.
use Rattle.std.proofs.Common.{◌≡◌, ◌↔◌, Bool, true, false, ℕ, ◌+◌, ◌<◌, ◌≤◌, List, [], ◌∷◌, map, length, drop, get_or, refl, sym, ◌∙◌, subst}
use Rattle.std.specs.List.{AllByRecursion}
use Rattle.smith_input.proofs.Rests.{drop_past, rest_at}

-- what is left has the property if all have it, and the other way round
pub record Left {A : Type 0} (P : A → Type 0) (xs : List A) (i : ℕ) : Type 0 where
  pub to : AllByRecursion P xs → AllByRecursion P (drop i xs)
  pub from : AllByRecursion P (drop i xs) → AllByRecursion P xs

module _ {A B : Type 0} (P : B → Type 0) (view : A → B) where
  mapped : (xs : List A) → AllByRecursion (λ x. P (view x)) xs → AllByRecursion P (map view xs)
  mapped [] all = tt
  mapped (x ∷ xs) all = (all.0, mapped xs all.1)

  unmapped : (xs : List A) → AllByRecursion P (map view xs) → AllByRecursion (λ x. P (view x)) xs
  unmapped [] all = tt
  unmapped (x ∷ xs) all = (all.0, unmapped xs all.1)

  pub all_hold : (xs : List A) (i : ℕ) → length xs ≤ i → Left (λ y. P (view y)) xs i → (true ≡ true) ↔ AllByRecursion P (map view xs)
  all_hold xs i l s =
      let all : AllByRecursion (λ y. P (view y)) xs = s.from (subst (λ ys. AllByRecursion (λ y. P (view y)) ys) (sym (drop_past xs i l)) tt) in
      (λ z. mapped xs all, λ y. refl)

  fails : (xs : List A) (i : ℕ) (x : A) → drop i xs ≡ x ∷ drop (i + 1) xs → (b : Bool) → b ≡ false → (b ≡ true) ↔ P (view x)
      → Left (λ y. P (view y)) xs i → (false ≡ true) ↔ AllByRecursion P (map view xs)
  fails xs i x front b n d s = (λ z. absurd cc, λ all. sym n ∙ d.1 (first all))
    where
      first : AllByRecursion P (map view xs) → P (view x)
      first all = (subst (λ ys. AllByRecursion (λ y. P (view y)) ys) front (s.to (unmapped xs all))).0

  pub not_all : (xs : List A) (i : ℕ) (x : A) → i < length xs → x ≡ get_or xs i x → (b : Bool) → b ≡ false → (b ≡ true) ↔ P (view x)
      → Left (λ y. P (view y)) xs i → (false ≡ true) ↔ AllByRecursion P (map view xs)
  not_all xs i x l e = fails xs i x (rest_at xs i x l e)
