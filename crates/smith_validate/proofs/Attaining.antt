-- What is kept of types, by one of them.
use Rattle.std.proofs.Common.{◌≡◌, ℕ, ◌+◌, ◌≤◌, Bool, true, false, List, ◌∷◌, ◌++◌, length, min, max, refl, sym, subst, arith}
use Rattle.std.proofs.Common.{Option, None, Some}
use Rattle.std.proofs.lemmas.Bool.{ltb-false}
use Rattle.std.specs.Prelude.{ltb, not}
use Rattle.smith_input.specs.NewNames.{is_among}
use Rattle.smith_tree.specs.Facts.{Id}
use Rattle.smith_validate.specs.Attained.{Attains, AttainsInner, AttainsOuter}
use Rattle.smith_validate.specs.Marks.{both, closed_needs, greater_of, no_needs, not_below, outer_of, outer_outside}
use Rattle.smith_validate.specs.Places.{IsBefore}
use Rattle.smith_validate.specs.declared.facts.Needs.{Needs}
use Rattle.smith_validate.specs.declared.facts.Outermost.{Outermost}
use Rattle.smith_validate.specs.declared.facts.Outermost.TheVariants.{Unnamed, Scope, Nothing}
use Rattle.smith_validate.proofs.Ids.{Moves, before_leave, open_leave}
use Rattle.smith_validate.proofs.Names.{Sub, sub_left, sub_right}

pub is_false : (b : Bool) → (b ≡ true → ⊥) → b ≡ false
is_false true f = absurd (f refl)
is_false false f = refl

pub not_both : (b : Bool) → b ≡ true → b ≡ false → ⊥
not_both true e f = let z : true ≡ false = f in cc
not_both false e f = let z : false ≡ true = e in cc

pub not_true : (b : Bool) → not b ≡ true → b ≡ false
not_true true e = sym e
not_true false e = refl

pub not_false : (b : Bool) → not b ≡ false → b ≡ true
not_false true e = refl
not_false false e = sym e

pub attains_nothing : (place : Id) (named ids : List Id) → Attains place named no_needs ids
attains_nothing place named ids = record { outer = tt; inner = tt }

-- What is named may grow by what was not added before the place.
abbrev pub Names : Id → List Id → List Id → Type 0
Names place named new = (id : Id) → is_among new id ≡ true → IsBefore 0 place id → is_among named id ≡ true

module _ (old new : Id) (named more : List Id) (m : Moves old new) (n : Names old named more) where
  outer_moves : (ids : List Id) (o : Outermost) → AttainsOuter old named ids o → AttainsOuter new more ids o
  outer_moves ids Unnamed a = (a.0, a.1, m.before 0 a.0 a.2, is_false (is_among more a.0) (λ h. not_both (is_among named a.0) (n a.0 h a.2) a.3))
  outer_moves ids (Scope level) a = (a.0, a.1, m.open_still a.0 a.2, a.3)
  outer_moves ids Nothing a = tt

  inner_moves : (ids : List Id) (o : Option ℕ) → AttainsInner old ids o → AttainsInner new ids o
  inner_moves ids None a = tt
  inner_moves ids (Some level) a = (a.0, a.1, m.before level a.0 a.2)

  pub attains_moves : (needs : Needs) (ids : List Id) → Attains old named needs ids → Attains new more needs ids
  attains_moves needs ids a = record { outer = outer_moves ids needs.outermost a.outer; inner = inner_moves ids needs.innermost a.inner }

module _ (place : Id) (named : List Id) where
  outer_sub : (ids more : List Id) → Sub ids more → (o : Outermost) → AttainsOuter place named ids o → AttainsOuter place named more o
  outer_sub ids more s Unnamed a = (a.0, s a.0 a.1, a.2, a.3)
  outer_sub ids more s (Scope level) a = (a.0, s a.0 a.1, a.2, a.3)
  outer_sub ids more s Nothing a = tt

  inner_sub : (ids more : List Id) → Sub ids more → (o : Option ℕ) → AttainsInner place ids o → AttainsInner place more o
  inner_sub ids more s None a = tt
  inner_sub ids more s (Some level) a = (a.0, s a.0 a.1, a.2)

  pub attains_sub : (ids more : List Id) → Sub ids more → (needs : Needs) → Attains place named needs ids → Attains place named needs more
  attains_sub ids more s needs a = record { outer = outer_sub ids more s needs.outermost a.outer; inner = inner_sub ids more s needs.innermost a.inner }

  outer_both : (ids : List Id) (x y : Outermost) → AttainsOuter place named ids x → AttainsOuter place named ids y
      → AttainsOuter place named ids (outer_of x y)
  outer_both ids Unnamed y a b = a
  outer_both ids (Scope m) Unnamed a b = b
  outer_both ids (Scope m) (Scope n) a b = lesser (ltb m n) refl
    where
      lesser : (t : Bool) → ltb m n ≡ t → AttainsOuter place named ids (Scope (min m n))
      lesser true e =
          let h : min m n ≡ m = grind (arith, e) in
          subst (λ k. AttainsOuter place named ids (Scope k)) (sym h) a
      lesser false e =
          let g : n ≤ m = ltb-false m n e in
          let h : min m n ≡ n = omega (arith, g) in
          subst (λ k. AttainsOuter place named ids (Scope k)) (sym h) b
  outer_both ids (Scope m) Nothing a b = a
  outer_both ids Nothing y a b = b

  inner_both : (ids : List Id) (x y : Option ℕ) → AttainsInner place ids x → AttainsInner place ids y
      → AttainsInner place ids (greater_of x y)
  inner_both ids None y a b = b
  inner_both ids (Some m) None a b = a
  inner_both ids (Some m) (Some n) a b = greater (ltb m n) refl
    where
      greater : (t : Bool) → ltb m n ≡ t → AttainsInner place ids (Some (max m n))
      greater true e =
          let h : max m n ≡ n = grind (arith, e) in
          subst (λ k. AttainsInner place ids (Some k)) (sym h) b
      greater false e =
          let g : n ≤ m = ltb-false m n e in
          let h : max m n ≡ m = omega (arith, g) in
          subst (λ k. AttainsInner place ids (Some k)) (sym h) a

  pub attains_both : (x y : Needs) (ids more : List Id) → Attains place named x ids → Attains place named y more
      → Attains place named (both x y) (ids ++ more)
  attains_both x y ids more a b =
      let c = attains_sub ids (ids ++ more) (sub_left ids more) x a in
      let d = attains_sub more (ids ++ more) (sub_right ids more) y b in
      record {
        outer = outer_both (ids ++ more) x.outermost y.outermost c.outer d.outer;
        inner = inner_both (ids ++ more) x.innermost y.innermost c.inner d.inner;
      }

-- A type is closed, and was added at the place, with that many scopes around it.
module _ (inner count : ℕ) (scope : Id) (named more : List Id) (n : Sub more named) (depth : ℕ) (d : depth ≡ length scope) where
  outer_closed : (ids : List Id) (o : Outermost) → AttainsOuter (inner ∷ count ∷ scope) named ids o
      → AttainsOuter ((count + 1) ∷ scope) more ids (outer_outside o depth)
  outer_closed ids Unnamed a = grind (arith, before_leave, is_false, not_both)
  outer_closed ids (Scope level) a = by_level (ltb depth level) refl
    where
      by_level : (t : Bool) → ltb depth level ≡ t → AttainsOuter ((count + 1) ∷ scope) more ids (outer_outside (Scope level) depth)
      by_level true e = rw e tt
      by_level false e =
          let h : level ≤ depth = ltb-false depth level e in
          rw e (a.0, a.1, open_leave inner count scope level a.0 (omega (arith, h, d)) a.3 a.2, a.3)
  outer_closed ids Nothing a = tt

  inner_closed : (ids : List Id) (o : Option ℕ) → AttainsInner (inner ∷ count ∷ scope) ids o
      → AttainsInner ((count + 1) ∷ scope) ids (not_below o depth)
  inner_closed ids None a = tt
  inner_closed ids (Some level) a = (a.0, a.1, before_leave inner count scope level (min level depth) a.0 (omega arith) (omega (arith, d)) a.2)

  pub attains_closed : (needs : Needs) (ids : List Id) → Attains (inner ∷ count ∷ scope) named needs ids
      → Attains ((count + 1) ∷ scope) more (closed_needs needs depth) ids
  attains_closed needs ids a = grind (arith, outer_closed, inner_closed)
