-- What types of values and of functions are made of, member by member.
use Rattle.std.proofs.Common.{◌≡◌, ℕ, ◌+◌, ◌<◌, ◌≤◌, List, [], ◌∷◌, ◌++◌, length, map, get_or, take, refl, sym, ap, ◌∙◌, sum, append-nil, arith}
use Rattle.std.specs.List.{flat_map}
use Rattle.std.specs.Prelude.{slice_get}
use Rattle.std.proofs.Common.{zero, suc, true, false, ◌⊎◌, inl, inr}
use Rattle.std.proofs.lemmas.Grind.{flat_map-append}
use Rattle.std.proofs.lemmas.List.{map-append, take_all, take_more}
use Rattle.std.proofs.lemmas.List.Concat.{flat_map-cons}
use Rattle.std.proofs.lemmas.List.Sums.{sum_by-append}
use Rattle.smith_syntax.specs.Marked.{MarkedOf, reference_reach}
use Rattle.smith_syntax.specs.declared.deftype.ComponentTypeRef.{ComponentTypeRef}
use Rattle.smith_syntax.specs.declared.deftype.ComponentTypeRef.TheVariants as to
use Rattle.smith_syntax.specs.Marks.{declared_mark, narrower, narrowest, no_mark, parts_of, sizes, value_reach}
use Rattle.smith_syntax.specs.Sizes.{capped, summed}
use Rattle.smith_syntax.specs.declared.marks.Mark.{Mark}
use Rattle.smith_syntax.specs.declared.marks.Reach.{Reach}
use Rattle.smith_syntax.specs.declared.marks.Reach.TheVariants.{Everywhere, Here, Nowhere}
use Rattle.smith_syntax.specs.declared.types.ComponentValType.{ComponentValType}

-- The narrower of several.

narrower_assoc : (r s t : Reach) → narrower r (narrower s t) ≡ narrower (narrower r s) t
narrower_assoc Everywhere s t = refl
narrower_assoc Here Everywhere t = refl
narrower_assoc Here Here Everywhere = refl
narrower_assoc Here Here Here = refl
narrower_assoc Here Here Nowhere = refl
narrower_assoc Here Nowhere t = refl
narrower_assoc Nowhere s t = refl

pub narrowest-append : (rs ss : List Reach) → narrowest (rs ++ ss) ≡ narrower (narrowest rs) (narrowest ss)
narrowest-append [] ss = refl
narrowest-append (r ∷ rs) ss = ap (narrower r) (narrowest-append rs ss) ∙ narrower_assoc r (narrowest rs) (narrowest ss)

module _ {A B : Type 0} (f : A → List B) (xs : List A) (i : ℕ) where
  pub items_more : (x : A) → i < length xs → x ≡ get_or xs i x → flat_map f (take (i + 1) xs) ≡ flat_map f (take i xs) ++ f x
  items_more x h e =
      ap (flat_map f) (take_more xs i x h ∙ ap (λ y. take i xs ++ y ∷ []) (sym e))
      ∙ (flat_map-append f (take i xs) (x ∷ []) ∙ ap (λ ys. flat_map f (take i xs) ++ ys) (flat_map-cons f x [] ∙ append-nil (f x)))

  pub items_all : length xs ≤ i → flat_map f (take i xs) ≡ flat_map f xs
  items_all h = ap (flat_map f) (take_all i xs h)

module _ {B : Type 0} (reach : B → Reach) (old new more : List B) where
  pub reach_more : (kept grown : Reach) → new ≡ old ++ more → kept ≡ narrowest (map reach old) → grown ≡ narrower kept (narrowest (map reach more))
      → grown ≡ narrowest (map reach new)
  reach_more kept grown n k g = grind (arith, map-append, narrowest-append)

module _ {B : Type 0} (size : B → ℕ) (old new more : List B) where
  pub size_more : (kept grown : ℕ) → new ≡ old ++ more → kept ≡ capped (sum (map size old) + 1)
      → (capped kept ≡ kept → grown ≡ capped (kept + sum (map size more))) → grown ≡ capped (sum (map size new) + 1)
  size_more kept grown n k g = grind (arith, map-append, sum_by-append)

-- a mark that may be missing
pub parts_at : (marks : List Mark) (i : ℕ) → (get_or marks i no_mark).parts ≡ parts_of (slice_get marks i)
parts_at [] i = refl
parts_at (m ∷ ms) zero = refl
parts_at (m ∷ ms) (suc i) = parts_at ms i

pub reach_at : {T C : Type 0} (d : MarkedOf T C) (r : ComponentTypeRef) (i : ℕ) → (r ≡ to.Func i) ⊎ ((r ≡ to.TypeEq i) ⊎ (r ≡ to.Instance i))
    → (get_or d.marks i no_mark).parts ≡ reference_reach d r
reach_at d r i (inl e) = parts_at d.marks i ∙ sym (ap (reference_reach d) e)
reach_at d r i (inr (inl e)) = parts_at d.marks i ∙ sym (ap (reference_reach d) e)
reach_at d r i (inr (inr e)) = parts_at d.marks i ∙ sym (ap (reference_reach d) e)

-- the marks of types that are made of these, which are others that are the same
module _ (marks : List Mark) (vs ws : List ComponentValType) (same : vs ≡ ws) (reach : Reach) (size : ℕ)
    (reach_is : reach ≡ narrowest (map (value_reach marks) vs)) (size_is : size ≡ capped (summed (sizes marks) vs)) where
  pub plain_is : {m : Mark} → m ≡ record { nominal = false; parts = reach; used = reach; size = size }
      → m ≡ declared_mark false (map (value_reach marks) ws) (capped (summed (sizes marks) ws))
  plain_is e = grind arith

  pub nominal_is : {m : Mark} → m ≡ record { nominal = true; parts = reach; used = Nowhere; size = size }
      → m ≡ declared_mark true (map (value_reach marks) ws) (capped (summed (sizes marks) ws))
  nominal_is e = grind arith
