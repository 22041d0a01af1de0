-- Positions that ascend, and their ranks.
use Rattle.std.proofs.Common.{◌≡◌, ◌≢◌, ℕ, zero, suc, ◌+◌, ◌<◌, ◌≤◌, Bool, true, false, List, [], ◌∷◌, length, get_or, refl, ap, sym, ◌∙◌, arith}
use Rattle.std.proofs.Common.{◌-◌, subst, ⊎_elim, Result, Ok, Err}
use Rattle.std.proofs.lemmas.Bool.{cases_lt, eq-eqb, ne_eqb}
use Rattle.std.proofs.lemmas.List.Sorted.{searched}
use Rattle.std.specs.List.Sorted.{IsBinarySearchResult, IsStrictlyIncreasing}
use Rattle.std.specs.Ordering.{nat_cmp}
use Rattle.std.specs.Prelude.{min, nat_eq, if◌then◌else◌}
use Rattle.std.specs.Result.{result_unwrap_or}
use Rattle.smith_input.specs.Script.{pick, rank_of, script_among}
use Rattle.smith_syntax.specs.Places.{places}
use Rattle.smith_types.proofs.MakingCore.{length-indexes}
use Rattle.std.proofs.Common.{map, Option, None, Some}
use Rattle.smith_scope.specs.Kept.{AreOffered, is_offered, offered_places}
use Rattle.smith_scope.specs.declared.offers.Offer.{Offer}
use Rattle.smith_scope.specs.declared.offers.Offer.TheVariants as offer
use Rattle.smith_scope.proofs.Offered.{unmarked_places}
use Rattle.smith_syntax.specs.Marked.{Marked}

-- the rank of what is at an index and not before it, or is nowhere
rank_is : (xs : List ℕ) (x i : ℕ) → i ≤ length xs → (i < length xs → get_or xs i 0 ≡ x) → ((k : ℕ) → k < i → get_or xs k 0 ≢ x) → rank_of nat_eq xs x ≡ i
rank_is [] x zero h at apart = refl
rank_is [] x (suc i) h at apart = absurd (omega arith)
rank_is (y ∷ ys) x zero h at apart = ap (λ b. if b then zero else suc (rank_of nat_eq ys x)) (eq-eqb y x (at (omega arith)))
rank_is (y ∷ ys) x (suc i) h at apart =
    ap (λ b. if b then zero else suc (rank_of nat_eq ys x)) (ne_eqb y x (apart zero (omega arith)))
    ∙ ap suc (rank_is ys x i (omega arith) (λ l. at (omega arith)) (λ k l. apart (suc k) (omega arith)))

-- each position is below the ones after it
rising : (xs : List ℕ) → IsStrictlyIncreasing xs → (i n : ℕ) → i + n < length xs → get_or xs i 0 + n ≤ get_or xs (i + n) 0
rising xs up i zero h = let e : i ≡ i + 0 = omega arith in omega (arith, ap (λ j. get_or xs j 0) e)
rising xs up i (suc n) h =
    let e : i + n + 1 ≡ i + suc n = omega arith in
    omega (arith, ap (λ j. get_or xs j 0) e, rising xs up i n (omega arith), up (i + n) (omega arith))

below : (xs : List ℕ) → IsStrictlyIncreasing xs → (i j : ℕ) → i < j → j < length xs → get_or xs i 0 < get_or xs j 0
below xs up i j l h =
    let e : i + (j - i) ≡ j = omega arith in
    omega (arith, ap (λ k. get_or xs k 0) e, rising xs up i (j - i) (omega arith))

not_falling : (xs : List ℕ) → IsStrictlyIncreasing xs → (i j : ℕ) → i ≤ j → j < length xs → get_or xs i 0 ≤ get_or xs j 0
not_falling xs up i j l h =
    let e : i + (j - i) ≡ j = omega arith in
    omega (arith, ap (λ k. get_or xs k 0) e, rising xs up i (j - i) (omega arith))

-- what a binary search among them finds
pub rank_found : (xs : List ℕ) (x : ℕ) (r : Result ℕ ℕ) → IsStrictlyIncreasing xs → IsBinarySearchResult (λ y. nat_cmp y x) xs r
    → result_unwrap_or r (length xs) ≡ rank_of nat_eq xs x
rank_found xs x (Ok i) up h =
    let found = searched xs x (Ok i) h (not_falling xs up) in
    sym (rank_is xs x i (omega (arith, found.0)) (λ l. found.1) (λ k l e. omega (arith, e, found.1, below xs up k i l found.0)))
rank_found xs x (Err i) up h =
    let missing = searched xs x (Err i) h (not_falling xs up) in
    let apart : (k : ℕ) → k < length xs → get_or xs k 0 ≢ x = λ k l e.
    ⊎_elim (λ b. omega (arith, e, missing.1 k b)) (λ a. omega (arith, e, missing.2 k a l)) (cases_lt k i) in
    sym (rank_is xs x (length xs) (omega arith) (λ l. omega (arith, l)) apart)

-- the places of what passes ascend

low_on : (b : Bool) (i : ℕ) (us : List ℕ) → ((k : ℕ) → k < length us → i + 1 ≤ get_or us k 0)
    → (k : ℕ) → k < length (if b then i ∷ us else us) → i ≤ get_or (if b then i ∷ us else us) k 0
low_on true i us low zero h = omega arith
low_on true i us low (suc k) h = omega (arith, low k (omega (arith, h)))
low_on false i us low k h = omega (arith, low k h)

rise_on : (b : Bool) (i : ℕ) (us : List ℕ) → ((k : ℕ) → k < length us → i + 1 ≤ get_or us k 0) → IsStrictlyIncreasing us
    → IsStrictlyIncreasing (if b then i ∷ us else us)
rise_on true i us low up zero h = omega (arith, low zero (omega (arith, h)))
rise_on true i us low up (suc k) h =
    let e : suc k + 1 ≡ suc (k + 1) = omega arith in
    subst (λ j. get_or us k 0 < get_or (i ∷ us) j 0) (sym e) (up k (omega (arith, h)))
rise_on false i us low up k h = up k h

module _ {A : Type 0} (test : A → Bool) where
  places_low : (i : ℕ) (xs : List A) (k : ℕ) → k < length (places test i xs) → i ≤ get_or (places test i xs) k 0
  places_low i [] k h = absurd (omega (arith, h))
  places_low i (x ∷ xs) k h = low_on (test x) i (places test (i + 1) xs) (places_low (i + 1) xs) k h

  pub places_rise : (i : ℕ) (xs : List A) → IsStrictlyIncreasing (places test i xs)
  places_rise i [] k h = absurd (omega (arith, h))
  places_rise i (x ∷ xs) k h = rise_on (test x) i (places test (i + 1) xs) (places_low (i + 1) xs) (places_rise (i + 1) xs) k h

-- an index among all of that many

rank_all : {A : Type 0} (i n : ℕ) (xs : List A) → rank_of nat_eq (places (λ x. true) i xs) (i + n) ≡ min n (length xs)
rank_all i n [] = omega arith
rank_all i zero (x ∷ xs) = ap (λ b. if b then zero else suc (rank_of nat_eq (places (λ y. true) (i + 1) xs) (i + zero))) (eq-eqb i (i + zero) (omega arith))
    ∙ (let z : 0 ≡ min 0 (length (x ∷ xs)) = omega arith in z)
rank_all i (suc n) (x ∷ xs) =
    let e : i + suc n ≡ i + 1 + n = omega arith in
    let rest : rank_of nat_eq (places (λ y. true) (i + 1) xs) (i + suc n) ≡ min n (length xs) =
    ap (rank_of nat_eq (places (λ y. true) (i + 1) xs)) e ∙ rank_all (i + 1) n xs in
    ap (λ b. if b then zero else suc (rank_of nat_eq (places (λ y. true) (i + 1) xs) (i + suc n))) (ne_eqb i (i + suc n) (λ k. omega (arith, k)))
    ∙ omega (arith, rest)

pub index_among : {A : Type 0} (xs : List A) (i : ℕ) → script_among nat_eq (places (λ x. true) 0 xs) i ≡ pick (length xs) (min i (length xs))
index_among xs i =
    let e : i ≡ 0 + i = omega arith in
    ap (λ n. pick n (rank_of nat_eq (places (λ x. true) 0 xs) i)) (length-indexes 0 xs)
    ∙ ap (pick (length xs)) (ap (rank_of nat_eq (places (λ x. true) 0 xs)) e ∙ rank_all 0 i xs)

-- Types that may be used for something, if no marks are kept.

all_of : (o : Offer) (s : Marked) → AreOffered o s None → offered_places o s ≡ places (λ t. true) 0 s.types
all_of o s a =
    ap (λ o. offered_places o s) a.0
    ∙ (ap (λ ms. offered_places offer.Equal (record s { marks = ms })) a.1
    ∙ unmarked_places (is_offered offer.Equal) (λ t. true) (λ t. refl) 0 s.types)

pub among_all : (o : Offer) (s : Marked) (i : ℕ) → AreOffered o s None
    → script_among nat_eq (offered_places o s) i ≡ pick (length s.types) (min i (length s.types))
among_all o s i a = ap (λ ks. script_among nat_eq ks i) (all_of o s a) ∙ index_among s.types i
