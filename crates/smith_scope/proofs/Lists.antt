-- Scopes by their counts.
use Rattle.std.proofs.Common.{◌≡◌, ℕ, zero, suc, ◌+◌, ◌-◌, ◌<◌, List, ◌∷◌, length, map, reverse, get_or, sym, ap, ◌∙◌, Option, Some, None, arith}
use Rattle.std.specs.Borrow.{Bor}
use Rattle.std.specs.Prelude.{MatchOption, option_map, slice_get}
use Rattle.std.proofs.lemmas.List.{get_or-map, get_or-reverse, length-map, length-reverse}
use Rattle.std.proofs.lemmas.Option.{slice_get-get_or, slice_get-map}
use Rattle.smith_scope.specs.Nest.{inward_of}
use Rattle.smith_scope.specs.declared.nest.Nest.{Nest}
use Rattle.smith_scope.proofs.Places.{map-reverse}

module _ {A B : Type 0} (f : A → B) (own : B) (xs : List A) where
  pub scope_found : (count i : ℕ) (x : A) → count + i ≡ length xs → 0 < count → x ≡ get_or xs i x → slice_get (own ∷ reverse (map f xs)) count ≡ Some (f x)
  scope_found zero i x e h is = absurd (omega arith)
  scope_found (suc k) i x e h is =
      let within : k < length (reverse (map f xs)) = omega (arith, length-reverse (map f xs), length-map xs f, e) in
      let inside : k < length (map f xs) = omega (arith, length-map xs f, e) in
      let at : length (map f xs) - 1 - k ≡ i = omega (arith, length-map xs f, e) in
      slice_get-get_or (reverse (map f xs)) k (f x) within
      ∙ ap (λ (y : B). Some y)
      (get_or-reverse (map f xs) k (f x) inside ∙ ap (λ n. get_or (map f xs) n (f x)) at ∙ get_or-map f xs i x (f x) (omega (arith, e)) ∙ ap f (sym is))

pub found_at : {A : Type 0} (xs : List A) (i : ℕ) (x : A) → i < length xs → x ≡ get_or xs i x → slice_get xs i ≡ Some x
found_at xs i x h is = slice_get-get_or xs i x h ∙ ap (λ y. Some y) (sym is)

pub head_same : {A : Type 0} (x y : A) (xs ys : List A) → x ∷ xs ≡ y ∷ ys → x ≡ y
head_same x y xs ys e = cc

pub tail_same : {A : Type 0} (x y : A) (xs ys : List A) → x ∷ xs ≡ y ∷ ys → xs ≡ ys
tail_same x y xs ys e = cc

-- what a scope of a nest shows
module _ {A B : Type 0} (f : A → B) (n : Nest A) (count : ℕ) where
  pub shown_at : slice_get (f n.own ∷ reverse (map f n.outer.items)) count ≡ option_map f (slice_get (inward_of n) count)
  shown_at = ap (λ ss. slice_get (f n.own ∷ ss) count) (map-reverse f n.outer.items) ∙ slice_get-map f (inward_of n) count

  pub shown_found : (r : Option (Bor A)) → option_map (λ s. s.now) r ≡ slice_get (inward_of n) count
      → MatchOption r (slice_get (f n.own ∷ reverse (map f n.outer.items)) count ≡ None)
      (λ s. slice_get (f n.own ∷ reverse (map f n.outer.items)) count ≡ Some (f s.now))
  shown_found None e = shown_at ∙ ap (λ o. option_map f o) (sym e)
  shown_found (Some s) e = shown_at ∙ ap (λ o. option_map f o) (sym e)
