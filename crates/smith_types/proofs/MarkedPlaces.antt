-- Places of types with marks: what is at the places where a test holds, and where what passes it is.
use Rattle.std.proofs.Common.{◌≡◌, ℕ, zero, suc, ◌+◌, Bool, true, ◌&&◌, List, [], ◌∷◌, refl, sym, ap, ◌∙◌}
use Rattle.std.proofs.lemmas.Bool.{and_from, and_parts}
use Rattle.std.specs.Prelude.{None, Option, Some, if◌then◌else◌, option_map, slice_get}
use Rattle.smith_scope.proofs.Places.{place_found, place_stands}
use Rattle.smith_syntax.specs.Places.{places}
use Rattle.smith_syntax.specs.Usable.{first_mark, later_marks, mark_at, marked_places}
use Rattle.smith_syntax.specs.declared.marks.Mark.{Mark}

first_or : (ms : List Mark) → mark_at ms 0 ≡ first_mark ms
first_or [] = refl
first_or (m ∷ ms) = refl

later_or : (ms : List Mark) (j : ℕ) → mark_at ms (suc j) ≡ mark_at (later_marks ms) j
later_or [] j = refl
later_or (m ∷ ms) j = refl

-- They are the places of a test of types, each with its mark.
module _ {T : Type 0} (test : T → Mark → Bool) where
  abbrev with_marks : List T → List Mark → List (T × Mark)
  with_marks [] ms = []
  with_marks (t ∷ ts) ms = (t, first_mark ms) ∷ with_marks ts (later_marks ms)

  abbrev passes : T × Mark → Bool
  passes p = test p.0 p.1

  places_are : (n : ℕ) (ts : List T) (ms : List Mark) → marked_places test n ts ms ≡ places passes n (with_marks ts ms)
  places_are n [] ms = refl
  places_are n (t ∷ ts) ms = ap (λ later. if test t (first_mark ms) then n ∷ later else later) (places_are (n + 1) ts (later_marks ms))

  at_is : (ts : List T) (ms : List Mark) (i : ℕ) → slice_get (with_marks ts ms) i ≡ option_map (λ t. (t, mark_at ms i)) (slice_get ts i)
  at_is [] ms i = refl
  at_is (t ∷ ts) ms zero = ap (λ m. Some (t, m)) (sym (first_or ms))
  at_is (t ∷ ts) ms (suc i) = at_is ts (later_marks ms) i ∙ ap (λ m. option_map (λ t. (t, m)) (slice_get ts i)) (sym (later_or ms i))

  split : (o : Option T) (m : Mark) (p : T × Mark) → option_map (λ t. (t, m)) o ≡ Some p → (t : T) × (o ≡ Some t) × ((t, m) ≡ p)
  split None m p h = absurd (cc)
  split (Some t) m p h = (t, refl, (cc))

  pub marked_stands : (ts : List T) (ms : List Mark) (k i : ℕ) → slice_get (marked_places test 0 ts ms) k ≡ Some i
      → (t : T) × (slice_get ts i ≡ Some t) × (test t (mark_at ms i) ≡ true)
  marked_stands ts ms k i h =
      let p = place_stands passes (with_marks ts ms) k i (ap (λ ps. slice_get ps k) (sym (places_are 0 ts ms)) ∙ h) in
      let t = split (slice_get ts i) (mark_at ms i) p.0 (sym (at_is ts ms i) ∙ p.1) in
      (t.0, t.1, ap passes t.2 ∙ p.2)

  pub marked_found : (ts : List T) (ms : List Mark) (i : ℕ) (t : T) → slice_get ts i ≡ Some t → test t (mark_at ms i) ≡ true
      → (k : ℕ) × (slice_get (marked_places test 0 ts ms) k ≡ Some i)
  marked_found ts ms i t h p =
      let f = place_found passes (with_marks ts ms) i (t, mark_at ms i) (at_is ts ms i ∙ ap (option_map (λ t. (t, mark_at ms i))) h) p in
      (f.0, ap (λ ps. slice_get ps f.0) (places_are 0 ts ms) ∙ f.1)

-- a test of three parts
pub three_from : (a b c : Bool) → a ≡ true → b ≡ true → c ≡ true → (a && b && c) ≡ true
three_from a b c h k l = and_from (a && b) c (and_from a b h k) l

pub three_parts : (a b c : Bool) → (a && b && c) ≡ true → (a ≡ true) × (b ≡ true) × (c ≡ true)
three_parts a b c h =
    let p = and_parts (a && b) c h in
    let q = and_parts a b p.0 in
    (q.0, q.1, p.1)
