-- How far two texts are the same, byte by byte.
use Rattle.std.proofs.Common.{◌≡◌, ◌≢◌, ℕ, zero, suc, ◌<◌, ◌≤◌, List, [], ◌∷◌, length, get_or, refl, ap, ◌∙◌, arith}
use Rattle.std.proofs.lemmas.Bool.{eq-eqb, ne_eqb}
use Rattle.std.specs.Prelude.{Bool, true, false, nat_eq, if◌then◌else◌}
use Rattle.smith_script.specs.Refusals.{common_length}

-- The first ones, that many, are the same, and there are no more, or the next differ.

pub ends_here : (xs ys : List ℕ) (i : ℕ) → i ≤ length xs → i ≤ length ys → ((k : ℕ) → k < i → get_or xs k 0 ≡ get_or ys k 0)
    → (i < length xs → i < length ys → get_or xs i 0 ≢ get_or ys i 0) → common_length xs ys ≡ i
ends_here [] ys zero a b same differ = refl
ends_here [] ys (suc i) a b same differ = absurd (omega arith)
ends_here (x ∷ xs) [] zero a b same differ = refl
ends_here (x ∷ xs) [] (suc i) a b same differ = absurd (omega arith)
ends_here (x ∷ xs) (y ∷ ys) zero a b same differ =
    ap (λ c. if c then suc (common_length xs ys) else 0) (ne_eqb x y (differ (omega arith) (omega arith)))
ends_here (x ∷ xs) (y ∷ ys) (suc i) a b same differ =
    ap (λ c. if c then suc (common_length xs ys) else 0) (eq-eqb x y (same zero (omega arith)))
    ∙ ap suc (ends_here xs ys i (omega arith) (omega arith) (λ k l. same (suc k) (omega arith)) (λ l m. differ (omega arith) (omega arith)))

one_more : (b : Bool) (n m : ℕ) → n ≤ m → (if b then suc n else 0) ≤ suc m
one_more true n m h = let z : suc n ≤ suc m = omega (arith, h) in z
one_more false n m h = let z : 0 ≤ suc m = omega arith in z

-- They are no more than there are in the second.
pub common_within : (xs ys : List ℕ) → common_length xs ys ≤ length ys
common_within [] ys = let z : 0 ≤ length ys = omega arith in z
common_within (x ∷ xs) [] = let z : 0 ≤ 0 = omega arith in z
common_within (x ∷ xs) (y ∷ ys) = one_more (nat_eq x y) (common_length xs ys) (length ys) (common_within xs ys)
