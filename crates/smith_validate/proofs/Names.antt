-- Lists of names that grow.
use Rattle.std.proofs.Common.{◌≡◌, ◌||◌, ◌⊎◌, Bool, true, false, List, [], ◌∷◌, ◌++◌, inl, inr, refl, sym, ◌∙◌, subst, append_assoc, append-nil}
use Rattle.std.proofs.lemmas.Grind.{flat_map-append}
use Rattle.std.proofs.lemmas.List.Folds.{list_any-append}
use Rattle.std.proofs.lemmas.Slice.Eq.{bytes_eq-Decides}
use Rattle.std.specs.Prelude.{bytes_eq}
use Rattle.smith_input.proofs.Lists.{all_back, all_both, all_front}
use Rattle.smith_input.specs.NewNames.{is_among}
use Rattle.smith_tree.specs.Facts.{Extern, Id}
use Rattle.smith_tree.specs.Validates.{RefersTo, names_of}
use Rattle.smith_validate.specs.Instances.{refers_of}
use Rattle.smith_validate.specs.Marks.{Within}
use Rattle.smith_validate.proofs.Zips.{all_by}

pub or_left : (a b : Bool) → a ≡ true → (a || b) ≡ true
or_left true b e = refl
or_left false b e = absurd (let z : false ≡ true = e in cc)

pub or_right : (a b : Bool) → b ≡ true → (a || b) ≡ true
or_right true b e = refl
or_right false b e = e

pub or_cases : (a b : Bool) → (a || b) ≡ true → (a ≡ true) ⊎ (b ≡ true)
or_cases true b e = inl refl
or_cases false b e = inr e

-- What is among some is among others.
abbrev pub Sub : List Id → List Id → Type 0
Sub some others = (id : Id) → is_among some id ≡ true → is_among others id ≡ true

pub sub_same : (a : List Id) → Sub a a
sub_same a = λ id h. h

pub sub_left : (a b : List Id) → Sub a (a ++ b)
sub_left a b = λ id h. list_any-append (λ n. bytes_eq n id) a b ∙ or_left (is_among a id) (is_among b id) h

pub sub_right : (a b : List Id) → Sub b (a ++ b)
sub_right a b = λ id h. list_any-append (λ n. bytes_eq n id) a b ∙ or_right (is_among a id) (is_among b id) h

pub among_cases : (a b : List Id) (id : Id) → is_among (a ++ b) id ≡ true → (is_among a id ≡ true) ⊎ (is_among b id ≡ true)
among_cases a b id h = or_cases (is_among a id) (is_among b id) (sym (list_any-append (λ n. bytes_eq n id) a b) ∙ h)

pub sub_both : (a b c : List Id) → Sub a c → Sub b c → Sub (a ++ b) c
sub_both a b c f g = λ id h. elim (among_cases a b id h) [ inl l ↦ f id l | inr r ↦ g id r ]

pub sub_then : (a b c : List Id) → Sub a b → Sub b c → Sub a c
sub_then a b c f g = λ id h. g id (f id h)

pub sub_more : (a b more : List Id) → Sub a b → Sub (a ++ more) (b ++ more)
sub_more a b more f = sub_both a more (b ++ more) (sub_then a b (b ++ more) f (sub_left b more)) (sub_right b more)

pub within_sub : (a b ids : List Id) → Sub a b → Within a ids → Within b ids
within_sub a b ids f = all_by (λ id. is_among a id ≡ true) (λ id. is_among b id ≡ true) f ids

pub within_append : (a xs ys : List Id) → Within a xs → Within a ys → Within a (xs ++ ys)
within_append a = all_both (λ id. is_among a id ≡ true)

pub within_first : (a xs ys : List Id) → Within a (xs ++ ys) → Within a xs
within_first a = all_front (λ id. is_among a id ≡ true)

pub within_last : (a xs ys : List Id) → Within a (xs ++ ys) → Within a ys
within_last a = all_back (λ id. is_among a id ≡ true)

pub refers_sub : (a b : List Id) (xs : List Extern) → Sub a b → RefersTo a xs → RefersTo b xs
refers_sub a b [] f r = tt
refers_sub a b (x ∷ xs) f r = (within_sub a b x.refers f r.0, refers_sub (a ++ x.names) (b ++ x.names) xs (sub_more a b x.names f) r.1)

pub refers_within : (a : List Id) (xs : List Extern) → RefersTo a xs → Within (a ++ names_of xs) (refers_of xs)
refers_within a [] r = tt
refers_within a (x ∷ xs) r =
    let all = a ++ (x.names ++ names_of xs) in
    within_append all x.refers (refers_of xs) (within_sub a all x.refers (sub_left a (x.names ++ names_of xs)) r.0)
    (subst (λ n. Within n (refers_of xs)) (append_assoc a x.names (names_of xs)) (refers_within (a ++ x.names) xs r.1))

pub within_refers : (a : List Id) (xs : List Extern) → Within a (refers_of xs) → RefersTo a xs
within_refers a [] w = tt
within_refers a (x ∷ xs) w = (
  within_first a x.refers (refers_of xs) w,
  within_refers (a ++ x.names) xs (within_sub a (a ++ x.names) (refers_of xs) (sub_left a x.names) (within_last a x.refers (refers_of xs) w)),
)

pub refers_of_append : (xs ys : List Extern) → refers_of (xs ++ ys) ≡ refers_of xs ++ refers_of ys
refers_of_append xs ys = flat_map-append (λ x. x.refers) xs ys

-- what is within some is among them
pub sub_within : (a ids : List Id) → Within a ids → Sub ids a
sub_within a [] w = λ id h. absurd (let z : false ≡ true = h in cc)
sub_within a (x ∷ ids) w = λ id h.
    elim (or_cases (bytes_eq x id) (is_among ids id) h)
    [ inl e ↦ subst (λ y. is_among a y ≡ true) ((bytes_eq-Decides x id).0 e) w.0 | inr r ↦ sub_within a ids w.1 id r ]

pub among_itself : (id : Id) (ids : List Id) → is_among (id ∷ ids) id ≡ true
among_itself id ids = or_left (bytes_eq id id) (is_among ids id) ((bytes_eq-Decides id id).1 refl)

pub among_one : (x id : Id) → is_among (x ∷ []) id ≡ true → x ≡ id
among_one x id h = elim (or_cases (bytes_eq x id) false h) [ inl e ↦ (bytes_eq-Decides x id).0 e | inr n ↦ absurd (let z : false ≡ true = n in cc) ]
