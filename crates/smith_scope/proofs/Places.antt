-- Places of a list: the items at which a test holds; and lists by themselves.
use Rattle.std.proofs.Common.{◌≡◌, ◌⊎◌, inl, inr, ℕ, zero, suc, ◌+◌, ◌<◌, ◌≤◌, Bool, true, false, cond, List, [], ◌∷◌, ◌++◌}
use Rattle.std.proofs.Common.{map, length, reverse, refl, sym, ap, ◌∙◌, arith}
use Rattle.std.proofs.lemmas.List.{reverse-append, map-append}
use Rattle.std.proofs.lemmas.Option.{slice_get_within}
use Rattle.std.specs.Prelude.{Some, None, slice_get}
use Rattle.smith_syntax.specs.Places.{places}

module _ {A : Type 0} (test : A → Bool) where
  -- The item at a place where the test holds passes it.
  abbrev StandsAt : List A → ℕ → ℕ → Type 0
  StandsAt es n i = (e : A) × (j : ℕ) × (i ≡ n + j) × (slice_get es j ≡ Some e) × (test e ≡ true)

  stands_later : (e : A) (es : List A) (n i : ℕ) → StandsAt es (n + 1) i → StandsAt (e ∷ es) n i
  stands_later e es n i (x, j, at, here, t) = (x, suc j, omega (arith, at), here, t)

  stands_split : (e : A) (es : List A) (n k i : ℕ) → ((m : ℕ) → slice_get (places test (n + 1) es) m ≡ Some i → StandsAt es (n + 1) i) → (b : Bool) → test e ≡ b
      → slice_get (cond b (n ∷ places test (n + 1) es) (places test (n + 1) es)) k ≡ Some i → StandsAt (e ∷ es) n i
  stands_split e es n zero i later true t g = let h : n ≡ i = cc in (e, 0, omega (arith, h), refl, t)
  stands_split e es n (suc k) i later true t g = stands_later e es n i (later k g)
  stands_split e es n k i later false t g = stands_later e es n i (later k g)

  stands_at : (es : List A) (n k i : ℕ) → slice_get (places test n es) k ≡ Some i → StandsAt es n i
  stands_at [] n k i h = absurd (cc)
  stands_at (e ∷ es) n k i h = stands_split e es n k i (λ m g. stands_at es (n + 1) m i g) (test e) refl h

  pub place_stands : (es : List A) (k i : ℕ) → slice_get (places test 0 es) k ≡ Some i → (e : A) × (slice_get es i ≡ Some e) × (test e ≡ true)
  place_stands es k i h = grind (arith, stands_at)

  pub place_within : (es : List A) (k i : ℕ) → slice_get (places test 0 es) k ≡ Some i → i < length es
  place_within es k i h = let p = place_stands es k i h in slice_get_within es i p.0 p.1

-- What a test accepts is among the places of what does.
module _ {A : Type 0} (test : A → Bool) where
  place_split : (x : A) (xs : List A) (n i : ℕ) → (k : ℕ) × (slice_get (places test (n + 1) xs) k ≡ Some i) → (b : Bool) → test x ≡ b
      → (k : ℕ) × (slice_get (cond b (n ∷ places test (n + 1) xs) (places test (n + 1) xs)) k ≡ Some i)
  place_split x xs n i later true t = (suc later.0, later.1)
  place_split x xs n i later false t = later

  place_from : (es : List A) (n i : ℕ) (e : A) → slice_get es i ≡ Some e → test e ≡ true → (k : ℕ) × (slice_get (places test n es) k ≡ Some (n + i))
  place_from [] n i e h t = absurd (cc)
  place_from (x ∷ xs) n zero e h t = grind arith
  place_from (x ∷ xs) n (suc j) e h t =
      let later = place_from xs (n + 1) j e h t in
      let at : n + 1 + j ≡ n + suc j = omega arith in
      place_split x xs n (n + suc j) (later.0, later.1 ∙ ap Some at) (test x) refl

  pub place_found : (es : List A) (i : ℕ) (e : A) → slice_get es i ≡ Some e → test e ≡ true → (k : ℕ) × (slice_get (places test 0 es) k ≡ Some i)
  place_found es i e h t = let p = place_from es 0 i e h t in (p.0, p.1 ∙ ap Some (let z : 0 + i ≡ i = omega arith in z))

-- the items of two lists in a row
pub get_left : {A : Type 0} (xs ys : List A) (k : ℕ) → k < length xs → slice_get (xs ++ ys) k ≡ slice_get xs k
get_left [] ys k h = absurd (omega arith)
get_left (x ∷ xs) ys zero h = refl
get_left (x ∷ xs) ys (suc k) h = get_left xs ys k (omega arith)

pub get_right : {A : Type 0} (xs ys : List A) (k j : ℕ) → k ≡ length xs + j → slice_get (xs ++ ys) k ≡ slice_get ys j
get_right [] ys k j h = let e : k ≡ j = omega (arith, h) in ap (slice_get ys) e
get_right (x ∷ xs) ys zero j h = absurd (omega arith)
get_right (x ∷ xs) ys (suc k) j h = get_right xs ys k j (omega arith)

-- an item of two lists in a row is in one of them
pub get_either : {A : Type 0} (xs ys : List A) (k : ℕ) (x : A) → slice_get (xs ++ ys) k ≡ Some x
    → ((j : ℕ) × (slice_get xs j ≡ Some x)) ⊎ ((j : ℕ) × (slice_get ys j ≡ Some x))
get_either [] ys k x e = inr (k, e)
get_either (z ∷ xs) ys zero x e = inl (0, e)
get_either (z ∷ xs) ys (suc k) x e = elim (get_either xs ys k x e) [ inl p ↦ inl (suc p.0, p.1) | inr p ↦ inr p ]

-- an item of a list that was mapped is from one of the list
pub get_mapped : {A B : Type 0} (f : A → B) (xs : List A) (k : ℕ) (y : B) → slice_get (map f xs) k ≡ Some y → (x : A) × (slice_get xs k ≡ Some x) × (y ≡ f x)
get_mapped f [] k y e = absurd (let z : None ≡ Some y = e in cc)
get_mapped f (x ∷ xs) zero y e = (x, refl, (let z : y ≡ f x = cc in z))
get_mapped f (x ∷ xs) (suc k) y e = get_mapped f xs k y e

pub push_front : (b : Bool) (i : ℕ) (us vs : List ℕ) → cond b (i ∷ (us ++ vs)) (us ++ vs) ≡ cond b (i ∷ us) us ++ vs
push_front true i us vs = refl
push_front false i us vs = refl

pub longer : (b : Bool) (i : ℕ) (us : List ℕ) (n : ℕ) → length us ≤ n → length (cond b (i ∷ us) us) ≤ n + 1
longer true i us n h = omega arith
longer false i us n h = omega arith

module _ {A : Type 0} (p : A → Bool) where
  pub places-append : (i : ℕ) (xs ys : List A) → places p i (xs ++ ys) ≡ places p i xs ++ places p (i + length xs) ys
  places-append i [] ys = grind arith
  places-append i (x ∷ xs) ys =
      let rest = places-append (i + 1) xs ys in
      let at : i + 1 + length xs ≡ i + length (x ∷ xs) = omega arith in
      ap (λ ws. cond (p x) (i ∷ ws) ws) (rest ∙ ap (λ k. places p (i + 1) xs ++ places p k ys) at)
      ∙ push_front (p x) i (places p (i + 1) xs) (places p (i + length (x ∷ xs)) ys)

  pub places-snoc : (xs : List A) (x : A) (b : Bool) → p x ≡ b → places p 0 (xs ++ x ∷ []) ≡ places p 0 xs ++ cond b (length xs ∷ []) []
  places-snoc xs x b e =
      places-append 0 xs (x ∷ [])
      ∙ ap (λ c. places p 0 xs ++ cond c ((0 + length xs) ∷ []) []) e
      ∙ ap (λ n. places p 0 xs ++ cond b (n ∷ []) []) (let z : 0 + length xs ≡ length xs = omega arith in z)

  pub length-places : (i : ℕ) (xs : List A) → length (places p i xs) ≤ length xs
  length-places i [] = omega arith
  length-places i (x ∷ xs) = let h = longer (p x) i (places p (i + 1) xs) (length xs) (length-places (i + 1) xs) in omega arith

pub map-reverse : {A B : Type 0} (f : A → B) (xs : List A) → reverse (map f xs) ≡ map f (reverse xs)
map-reverse f [] = refl
map-reverse f (x ∷ xs) =
    reverse-append (f x ∷ []) (map f xs)
    ∙ (ap (λ ys. ys ++ f x ∷ []) (map-reverse f xs) ∙ sym (map-append f (reverse xs) (x ∷ [])))
    ∙ ap (map f) (sym (reverse-append (x ∷ []) xs))
