-- Lists without some of their items.
use Rattle.std.proofs.Common.{◌≡◌, Bool, false, bytes_eq, List, [], ◌∷◌, ◌++◌, ℕ}
use Rattle.std.specs.List.{AllByRecursion, IsDistinct}
use Rattle.smith_syntax.specs.WellFormed.{Named}
use Rattle.std.proofs.Common.{◌+◌, ◌<◌, ◌≤◌, Option, None, Some, append_assoc, drop, get_or, map, length, ap, sym}
use Rattle.std.proofs.Common.{append-nil}
use Rattle.std.proofs.Common.{refl, ◌∙◌, arith}
use Rattle.std.specs.Option.{option_map, option_to_list}
use Rattle.smith_input.proofs.Lists.{map_drop, map_dropped}

-- the first is the second without some of its items
pub data Sub {A : Type 0} : List A → List A → Type 0 where
  none : Sub [] []
  skip : (x : A) (ys xs : List A) → Sub ys xs → Sub ys (x ∷ xs)
  keep : (x : A) (ys xs : List A) → Sub ys xs → Sub (x ∷ ys) (x ∷ xs)

module _ {A : Type 0} where
  pub sub_same : (xs : List A) → Sub xs xs
  sub_same [] = none
  sub_same (x ∷ xs) = keep x xs xs (sub_same xs)

  pub nothing_of : (xs : List A) → Sub [] xs
  nothing_of [] = none
  nothing_of (x ∷ xs) = skip x [] xs (nothing_of xs)

  pub sub_append : (ps qs cs ds : List A) → Sub ps qs → Sub cs ds → Sub (ps ++ cs) (qs ++ ds)
  sub_append _ _ cs ds none t = t
  sub_append _ _ cs ds (skip x ys xs s) t = skip x (ys ++ cs) (xs ++ ds) (sub_append ys xs cs ds s t)
  sub_append _ _ cs ds (keep x ys xs s) t = keep x (ys ++ cs) (xs ++ ds) (sub_append ys xs cs ds s t)

  pub sub_all : (P : A → Type 0) (ys xs : List A) → Sub ys xs → AllByRecursion P xs → AllByRecursion P ys
  sub_all P _ _ none h = tt
  sub_all P _ _ (skip x ys xs s) h = sub_all P ys xs s h.1
  sub_all P _ _ (keep x ys xs s) h = (h.0, sub_all P ys xs s h.1)

  pub sub_distinct : (eq : A → A → Bool) (ys xs : List A) → Sub ys xs → IsDistinct eq xs → IsDistinct eq ys
  unfolding IsDistinct
  sub_distinct eq _ _ none h = tt
  sub_distinct eq _ _ (skip x ys xs s) h = sub_distinct eq ys xs s h.1
  sub_distinct eq _ _ (keep x ys xs s) h = (sub_all (λ y. eq x y ≡ false) ys xs s h.0, sub_distinct eq ys xs s h.1)

pub named_sub : (ys xs : List (List ℕ)) → Sub ys xs → Named xs → Named ys
named_sub ys xs s h = (sub_all _ ys xs s h.0, sub_distinct bytes_eq ys xs s h.1)

-- Lists, item by item.

-- what items have, gathered one by one after what is known
module _ {X A N : Type 0} (shown : X → A) (all : List A → List N) (of : A → List N) (more : (x : A) (xs : List A) → all (x ∷ xs) ≡ of x ++ all xs) where
  pub gathered_step : (known whole : List N) (xs : List X) (i : ℕ) (x : X) → i < length xs → x ≡ get_or xs i x
      → known ++ all (map shown (drop i xs)) ≡ whole → (known ++ of (shown x)) ++ all (map shown (drop (i + 1) xs)) ≡ whole
  gathered_step known whole xs i x lt at h = grind (arith, append_assoc, map_drop)

  pub gathered_end : all [] ≡ [] → (known whole : List N) (xs : List X) (i : ℕ) → length xs ≤ i → known ++ all (map shown (drop i xs)) ≡ whole → known ≡ whole
  gathered_end empty known whole xs i h e =
      sym (append-nil known) ∙ (sym (ap (λ ns. known ++ ns) (ap all (map_dropped shown xs i h) ∙ empty)) ∙ e)

-- what is left, with what may be left too
pub map_more : {A B : Type 0} (g : A → B) (left : List A) (new : Option A)
    → map g (left ++ option_to_list new) ≡ map g left ++ option_to_list (option_map g new)
map_more g [] None = refl
map_more g [] (Some x) = refl
map_more g (y ∷ ys) new = ap (λ zs. g y ∷ zs) (map_more g ys new)
