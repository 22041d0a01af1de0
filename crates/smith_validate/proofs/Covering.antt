-- What is kept of types that have to be named, and where they are named.
use Rattle.std.proofs.Common.{◌≡◌, ◌⊎◌, ℕ, ◌+◌, ◌<◌, ◌≤◌, true, false, List, [], ◌∷◌, ◌++◌, length, min, inl, inr, refl, arith}
use Rattle.std.proofs.Common.{Option, None, Some}
use Rattle.std.proofs.lemmas.Bool.{le-ltb, leb-true}
use Rattle.std.proofs.lemmas.Slice.Eq.{bytes_eq-Decides}
use Rattle.std.specs.Prelude.{bytes_eq}
use Rattle.smith_input.proofs.Lists.{all_both}
use Rattle.smith_input.specs.NewNames.{is_among}
use Rattle.smith_tree.specs.Facts.{Id}
use Rattle.smith_validate.specs.Marks.{Covers, IsAbove, IsCoveredBy, IsNamedIn, IsUpTo, Within, both, closed_needs, greater_of, is_nothing, is_within}
use Rattle.smith_validate.specs.Marks.{named_needs, not_below, outer_of, outer_outside}
use Rattle.smith_validate.specs.declared.facts.Needs.{Needs}
use Rattle.smith_validate.specs.declared.facts.Outermost.{Outermost}
use Rattle.smith_validate.specs.declared.facts.Outermost.TheVariants.{Unnamed, Scope, Nothing}
use Rattle.smith_validate.proofs.Names.{Sub, or_left, sub_left, sub_right, within_sub}
use Rattle.smith_validate.proofs.Zips.{all_by}

abbrev IsCovered : List (List Id) → Needs → Id → Type 0
IsCovered names x id = IsCoveredBy x.outermost x.innermost names id

up_to_left : (i j : Option ℕ) (l : ℕ) → IsUpTo i l → IsUpTo (greater_of i j) l
up_to_left None j l h = absurd h
up_to_left (Some a) None l h = h
up_to_left (Some a) (Some b) l h = omega arith

up_to_right : (i j : Option ℕ) (l : ℕ) → IsUpTo j l → IsUpTo (greater_of i j) l
up_to_right None j l h = h
up_to_right (Some a) None l h = absurd h
up_to_right (Some a) (Some b) l h = omega arith

pub above_left : (i j : Option ℕ) (l : ℕ) → IsAbove (greater_of i j) l → IsAbove i l
above_left None j l h = tt
above_left (Some a) None l h = h
above_left (Some a) (Some b) l h = omega arith

pub above_right : (i j : Option ℕ) (l : ℕ) → IsAbove (greater_of i j) l → IsAbove j l
above_right None j l h = h
above_right (Some a) None l h = tt
above_right (Some a) (Some b) l h = omega arith

module _ (a b : ℕ) (i j : Option ℕ) where
  named_looser : (names : List (List Id)) (id : Id) → a ≤ b → ((l : ℕ) → IsUpTo j l → IsUpTo i l) → IsNamedIn b j names id → IsNamedIn a i names id
  named_looser [] id h f n = n
  named_looser (here ∷ names) id h f n =
      elim n [ inl x ↦ inl (x.0, omega (arith, h, x.1), f (length names) x.2) | inr y ↦ inr (named_looser names id h f y) ]

module _ (names : List (List Id)) (id : Id) (i j : Option ℕ) where
  covered_left : (x y : Outermost) → IsCoveredBy x i names id → IsCoveredBy (outer_of x y) (greater_of i j) names id
  covered_left Unnamed y c = tt
  covered_left (Scope a) Unnamed c = tt
  covered_left (Scope a) (Scope b) c = named_looser (min a b) a (greater_of i j) i names id (omega arith) (up_to_left i j) c
  covered_left (Scope a) Nothing c = named_looser a a (greater_of i j) i names id (omega arith) (up_to_left i j) c
  covered_left Nothing y c = absurd c

  covered_right : (x y : Outermost) → IsCoveredBy y j names id → IsCoveredBy (outer_of x y) (greater_of i j) names id
  covered_right Unnamed y c = tt
  covered_right (Scope a) Unnamed c = tt
  covered_right (Scope a) (Scope b) c = named_looser (min a b) b (greater_of i j) j names id (omega arith) (up_to_right i j) c
  covered_right (Scope a) Nothing c = absurd c
  covered_right Nothing Unnamed c = tt
  covered_right Nothing (Scope b) c = named_looser b b (greater_of i j) j names id (omega arith) (up_to_right i j) c
  covered_right Nothing Nothing c = absurd c

module _ (names : List (List Id)) (x y : Needs) where
  pub covers_left : (ids : List Id) → Covers names x ids → Covers names (both x y) ids
  covers_left = all_by (IsCovered names x) (IsCovered names (both x y)) (λ id. covered_left names id x.innermost y.innermost x.outermost y.outermost)

  pub covers_right : (ids : List Id) → Covers names y ids → Covers names (both x y) ids
  covers_right = all_by (IsCovered names y) (IsCovered names (both x y)) (λ id. covered_right names id x.innermost y.innermost x.outermost y.outermost)

pub covers_both : (names : List (List Id)) (x y : Needs) (a b : List Id) → Covers names x a → Covers names y b → Covers names (both x y) (a ++ b)
covers_both names x y a b c d = all_both (IsCovered names (both x y)) a b (covers_left names x y a c) (covers_right names x y b d)

-- an unnamed one says nothing of where the types are named
pub covers_unnamed : (names : List (List Id)) (i : Option ℕ) (ids : List Id) → Covers names (record { outermost = Unnamed; innermost = i }) ids
covers_unnamed names i [] = tt
covers_unnamed names i (id ∷ ids) = (tt, covers_unnamed names i ids)

covered_outer : (here : List Id) (names : List (List Id)) (id : Id) (o : Outermost) (i : Option ℕ) → IsCoveredBy o i names id
    → IsCoveredBy o i (here ∷ names) id
covered_outer here names id Unnamed i c = tt
covered_outer here names id (Scope a) i c = inr c
covered_outer here names id Nothing i c = absurd c

pub covers_outer : (here : List Id) (names : List (List Id)) (x : Needs) (ids : List Id) → Covers names x ids → Covers (here ∷ names) x ids
covers_outer here names x = all_by (IsCovered names x) (IsCovered (here ∷ names) x) (λ id. covered_outer here names id x.outermost x.innermost)

module _ (here there : List Id) (names : List (List Id)) (sub : Sub here there) where
  covered_here : (id : Id) (o : Outermost) (i : Option ℕ) → IsCoveredBy o i (here ∷ names) id → IsCoveredBy o i (there ∷ names) id
  covered_here id Unnamed i c = tt
  covered_here id (Scope a) i c = elim c [ inl x ↦ inl (sub id x.0, x.1, x.2) | inr y ↦ inr y ]
  covered_here id Nothing i c = absurd c

  pub covers_here : (x : Needs) (ids : List Id) → Covers (here ∷ names) x ids → Covers (there ∷ names) x ids
  covers_here x = all_by (IsCovered (here ∷ names) x) (IsCovered (there ∷ names) x) (λ id. covered_here id x.outermost x.innermost)

pub covers_named : (here : List Id) (names : List (List Id)) (id : Id) → is_among here id ≡ true → Covers (here ∷ names) (named_needs (length names)) (id ∷ [])
covers_named here names id h = (inl (h, omega arith, omega arith), tt)

pub covers_nothing : (names : List (List Id)) (x : Needs) (named ids : List Id) → is_nothing x.outermost ≡ true → Covers names x ids → Within named ids
covers_nothing names x named [] h c = tt
covers_nothing names x named (id ∷ ids) h c = absurd (none x.outermost h c.0)
  where
    none : (o : Outermost) → is_nothing o ≡ true → IsCoveredBy o x.innermost names id → ⊥
    none Unnamed e d = let z : false ≡ true = e in cc
    none (Scope a) e d = let z : false ≡ true = e in cc
    none Nothing e d = d

-- levels are levels of open scopes
named_level : (from : ℕ) (i : Option ℕ) (names : List (List Id)) (id : Id) → IsNamedIn from i names id → from < length names
named_level from i [] id n = absurd n
named_level from i (here ∷ names) id n =
    elim n [ inl x ↦ omega (arith, x.1) | inr y ↦ let h : from < length names = named_level from i names id y in omega (arith, h) ]

pub covers_within : (here : List Id) (names : List (List Id)) (x : Needs) (ids : List Id) → is_within x.outermost (length names) ≡ true
    → Covers (here ∷ names) x ids → Within here ids
covers_within here names x [] h c = tt
covers_within here names x (id ∷ ids) h c = (own x.outermost h c.0, covers_within here names x ids h c.1)
  where
    own : (o : Outermost) → is_within o (length names) ≡ true → IsCoveredBy o x.innermost (here ∷ names) id → is_among here id ≡ true
    own Unnamed e d = absurd (let z : false ≡ true = e in cc)
    own (Scope a) e d =
        elim d [
          | inl y ↦ y.0
          | inr y ↦ absurd (let l : a < length names = named_level a x.innermost names id y in let k = leb-true
              (length names) a e in omega (arith, l, k))
        ]
    own Nothing e d = absurd d

-- What is named by the innermost scope, and the rest, which may be all.
pub record Split (here : List Id) (names : List (List Id)) (x : Needs) (ids : List Id) : Type 0 where
  pub outside : List Id
  pub within : Within (outside ++ here) ids
  pub covered : Covers names x outside
  pub all : IsAbove x.innermost (length names) → Within outside ids

abbrev Found : List Id → List (List Id) → Needs → Id → Type 0
Found here names x id = ((is_among here id ≡ true) × (IsAbove x.innermost (length names) → ⊥)) ⊎ IsCoveredBy x.outermost x.innermost names id

reached : (i : Option ℕ) (l : ℕ) → IsUpTo i l → IsAbove i l → ⊥
reached None l u a = u
reached (Some k) l u a = omega arith

module _ (here : List Id) (names : List (List Id)) (x : Needs) where
  found : (id : Id) (o : Outermost) → IsCoveredBy o x.innermost (here ∷ names) id
      → ((is_among here id ≡ true) × (IsAbove x.innermost (length names) → ⊥)) ⊎ IsCoveredBy o x.innermost names id
  found id Unnamed c = inr tt
  found id (Scope a) c = elim c [ inl y ↦ inl (y.0, reached x.innermost (length names) y.2) | inr z ↦ inr z ]
  found id Nothing c = absurd c

  pub split : (ids : List Id) → Covers (here ∷ names) x ids → Split here names x ids
  split [] c = record { outside = []; within = tt; covered = tt; all = λ a. tt }
  split (id ∷ ids) c =
      let s = split ids c.1 in
      elim (found id x.outermost c.0) [
        | inl y ↦ record {
          outside = s.outside;
          within = (sub_right s.outside here id y.0, s.within);
          covered = s.covered;
          all = λ a. absurd (y.1 a);
        }
        | inr z ↦ record {
          outside = id ∷ s.outside;
          within = (
            sub_left (id ∷ s.outside) here id (or_left (bytes_eq id id) (is_among s.outside id) ((bytes_eq-Decides id id).1 refl)),
            within_sub (s.outside ++ here) (id ∷ (s.outside ++ here)) ids (sub_right (id ∷ []) (s.outside ++ here)) s.within,
          );
          covered = (z, s.covered);
          all = λ a. (
            or_left (bytes_eq id id) (is_among s.outside id) ((bytes_eq-Decides id id).1 refl),
            within_sub s.outside (id ∷ s.outside) ids (sub_right (id ∷ []) s.outside) (s.all a),
          );
        }
      ]

-- When an instance type is closed, all that remains is named in the scopes around it.
named_closed : (from : ℕ) (i : Option ℕ) (depth : ℕ) (names : List (List Id)) (id : Id) → length names ≤ depth + 1 → IsNamedIn from i names id
    → IsNamedIn from (not_below i depth) names id
named_closed from i depth [] id h n = n
named_closed from i depth (here ∷ names) id h n =
    elim n [ inl x ↦ inl (x.0, x.1, lower i x.2) | inr y ↦ inr (named_closed from i depth names id (omega (arith, h)) y) ]
  where
    lower : (j : Option ℕ) → IsUpTo j (length names) → IsUpTo (not_below j depth) (length names)
    lower None u = u
    lower (Some k) u = let b : length names ≤ depth = omega (arith, h) in omega (arith, u, b)

module _ (names : List (List Id)) (depth : ℕ) (h : length names ≤ depth + 1) where
  covered_closed : (id : Id) (o : Outermost) (i : Option ℕ) → IsCoveredBy o i names id → IsCoveredBy (outer_outside o depth) (not_below i depth) names id
  covered_closed id Unnamed i c = tt
  covered_closed id (Scope a) i c = grind (arith, named_level, le-ltb, named_closed)
  covered_closed id Nothing i c = absurd c

  pub covers_closed : (x : Needs) (ids : List Id) → Covers names x ids → Covers names (closed_needs x depth) ids
  covers_closed x = all_by (IsCovered names x) (IsCovered names (closed_needs x depth)) (λ id. covered_closed id x.outermost x.innermost)
