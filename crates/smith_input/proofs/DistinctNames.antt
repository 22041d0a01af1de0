-- Names that are new one after another, and names that are distinct.
use Rattle.std.proofs.Common.{◌≡◌, ◌||◌, true, false, ℕ, List, [], ◌∷◌, ◌++◌, refl, append-nil, append_assoc, subst, sym, ap, ◌∙◌, bytes_eq}
use Rattle.std.specs.List.{AllByRecursion, IsDistinct}
use Rattle.std.proofs.lemmas.Bool.{false≢true, or_right, or_left, false_from_ne_true}
use Rattle.std.proofs.lemmas.Slice.Eq.{bytes_eq-Decides}
use Rattle.smith_input.specs.NewNames.{is_among}
use Rattle.smith_input.proofs.NewNames.{among_more}

-- Each name is none of those before it: of these, and of those in the list.
abbrev pub AreNew : List (List ℕ) → List (List ℕ) → Type 0
AreNew before [] = Unit {0}
AreNew before (n ∷ ns) = (is_among before n ≡ false) × AreNew (before ++ n ∷ []) ns

-- one of the names before is none of the new ones
apart : (before ns : List (List ℕ)) (q : List ℕ) → is_among before q ≡ true → AreNew before ns → AllByRecursion (λ n. bytes_eq q n ≡ false) ns
apart before [] q h a = tt
apart before (n ∷ ns) q h a = (
  false_from_ne_true (bytes_eq q n) (λ e. false≢true (sym (sym h ∙ (ap (is_among before) ((bytes_eq-Decides q n).0 e) ∙ a.0)))),
  apart (before ++ n ∷ []) ns q (among_more before n q ∙ or_right (bytes_eq n q) (is_among before q) h) a.1,
)

pub new_distinct : (before ns : List (List ℕ)) → AreNew before ns → IsDistinct bytes_eq ns
unfolding IsDistinct
new_distinct before [] a = tt
new_distinct before (n ∷ ns) a = (
  apart (before ++ n ∷ []) ns n (among_more before n n ∙ or_left (bytes_eq n n) (is_among before n) ((bytes_eq-Decides n n).1 refl)) a.1,
  new_distinct (before ++ n ∷ []) ns a.1,
)

-- the names of a list are none of those before, nor of one more
apart_more : (before ns : List (List ℕ)) (n : List ℕ) → AllByRecursion (λ m. is_among before m ≡ false) ns → AllByRecursion (λ m. bytes_eq n m ≡ false) ns
    → AllByRecursion (λ m. is_among (before ++ n ∷ []) m ≡ false) ns
apart_more before [] n a b = tt
apart_more before (m ∷ ms) n a b = (among_more before n m ∙ (ap (λ x. x || is_among before m) b.0 ∙ a.0), apart_more before ms n a.1 b.1)

pub distinct_new : (before ns : List (List ℕ)) → AllByRecursion (λ m. is_among before m ≡ false) ns → IsDistinct bytes_eq ns → AreNew before ns
unfolding IsDistinct
distinct_new before [] a d = tt
distinct_new before (n ∷ ns) a d = (a.0, distinct_new (before ++ n ∷ []) ns (apart_more before ns n a.1 d.0) d.1)

pub none_before : (ns : List (List ℕ)) → AllByRecursion (λ m. is_among [] m ≡ false) ns
none_before [] = tt
none_before (n ∷ ns) = (refl, none_before ns)

-- one new name more
pub new_more : (before ns : List (List ℕ)) (n : List ℕ) → AreNew before ns → is_among (before ++ ns) n ≡ false → AreNew before (ns ++ n ∷ [])
new_more before [] n a new = (subst (λ z. is_among z n ≡ false) (append-nil before) new, tt)
new_more before (m ∷ ms) n a new = (a.0, new_more (before ++ m ∷ []) ms n a.1 (subst (λ z. is_among z n ≡ false) (sym (append_assoc before (m ∷ []) ms)) new))

-- of new names those in front of some are new
pub new_front : (before front back : List (List ℕ)) → AreNew before (front ++ back) → AreNew before front
new_front before [] back h = tt
new_front before (n ∷ ns) back h = (h.0, new_front (before ++ n ∷ []) ns back h.1)

-- of new names those after some are new after them
pub new_back : (before front back : List (List ℕ)) → AreNew before (front ++ back) → AreNew (before ++ front) back
new_back before [] back h = subst (λ z. AreNew z back) (sym (append-nil before)) h
new_back before (n ∷ ns) back h = subst (λ z. AreNew z back) (append_assoc before (n ∷ []) ns) (new_back (before ++ n ∷ []) ns back h.1)
