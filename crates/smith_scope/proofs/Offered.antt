-- How many types may be used for what, and which they are if no marks are kept.
use Rattle.std.proofs.Common.{◌≡◌, ℕ, zero, suc, ◌+◌, ◌<◌, ◌≤◌, Bool, true, false, ◌&&◌, cond, List, [], ◌∷◌, length, map, refl, sym, ap, ◌∙◌, subst, arith}
use Rattle.std.proofs.Common.{None, Some}
use Rattle.std.proofs.lemmas.List.{length-map}
use Rattle.std.specs.Prelude.{slice_get, IfSome}
use Rattle.smith_syntax.specs.Entries.{CoreEntry, Entry}
use Rattle.smith_syntax.specs.Marked.{MarkedOf, scope_in}
use Rattle.smith_syntax.specs.Usable.{first_mark, later_marks, marked_places}
use Rattle.smith_syntax.specs.Marks.{no_mark}
use Rattle.smith_syntax.specs.Places.{places}
use Rattle.smith_syntax.specs.Scope.{Scope, is_component, is_defined, is_func, is_instance}
use Rattle.smith_syntax.specs.declared.marks.Mark.{Mark}
use Rattle.smith_scope.specs.Kept.{is_offered, kind_for, offered_places}
use Rattle.smith_scope.specs.Positions.{kind_places, plain_marked, plain_scope}
use Rattle.smith_scope.specs.declared.kinds.Kind.{Kind}
use Rattle.smith_scope.specs.declared.offers.Offer.{Offer}
use Rattle.smith_scope.specs.declared.offers.Offer.TheVariants as offer
use Rattle.smith_scope.proofs.Places.{longer}
use Rattle.smith_tree.proofs.Unmarked.{and_true}

module _ {T : Type 0} (p : T → Mark → Bool) where
  pub length-marked_places : (i : ℕ) (ts : List T) (ms : List Mark) → length (marked_places p i ts ms) ≤ length ts
  length-marked_places i [] ms = omega arith
  length-marked_places i (t ∷ ts) ms =
      let h = longer (p t (first_mark ms)) i (marked_places p (i + 1) ts (later_marks ms)) (length ts) (length-marked_places (i + 1) ts (later_marks ms)) in
      omega (arith, h)

  pub marked_within : (n : ℕ) (ts : List T) (ms : List Mark) (k i : ℕ) → slice_get (marked_places p n ts ms) k ≡ Some i → i < n + length ts
  marked_within n [] ms k i h = absurd (let z : None ≡ Some i = h in cc)
  marked_within n (t ∷ ts) ms k i h =
      marked_here n ts (later_marks ms) i (λ j g. marked_within (n + 1) ts (later_marks ms) j i g) (p t (first_mark ms)) k h
    where
      marked_here : (n : ℕ) (ts : List T) (ms : List Mark) (i : ℕ)
          → ((j : ℕ) → slice_get (marked_places p (n + 1) ts ms) j ≡ Some i → i < n + 1 + length ts) → (b : Bool) (k : ℕ)
          → slice_get (cond b (n ∷ marked_places p (n + 1) ts ms) (marked_places p (n + 1) ts ms)) k ≡ Some i → i < n + suc (length ts)
      marked_here n ts ms i later true zero g = let h : n ≡ i = cc in omega (arith, h)
      marked_here n ts ms i later true (suc k) g = let h = later k g in omega (arith, h)
      marked_here n ts ms i later false k g = let h = later k g in omega (arith, h)

  -- without marks, the test of a type looks at the type alone
  pub unmarked_places : (q : T → Bool) → ((t : T) → p t no_mark ≡ q t) → (i : ℕ) (ts : List T) → marked_places p i ts [] ≡ places q i ts
  unmarked_places q is i [] = refl
  unmarked_places q is i (t ∷ ts) =
      ap (λ b. cond b (i ∷ marked_places p (i + 1) ts []) (marked_places p (i + 1) ts [])) (is t)
      ∙ ap (λ ws. cond (q t) (i ∷ ws) ws) (unmarked_places q is (i + 1) ts)

module _ {T : Type 0} where
  pub length-every_place : (i : ℕ) (ts : List T) → length (places (λ t. true) i ts) ≡ length ts
  length-every_place i [] = refl
  length-every_place i (t ∷ ts) = let rest = length-every_place (i + 1) ts in omega (arith, rest)

  pub every_place_at : (i : ℕ) (ts : List T) (k : ℕ) → k < length ts → slice_get (places (λ t. true) i ts) k ≡ Some (i + k)
  every_place_at i [] k h = absurd (omega (arith, h))
  every_place_at i (t ∷ ts) zero h = ap Some (let z : i ≡ i + 0 = omega arith in z)
  every_place_at i (t ∷ ts) (suc k) h =
      every_place_at (i + 1) ts k (omega (arith, h)) ∙ ap Some (let z : i + 1 + k ≡ i + suc k = omega arith in z)

-- if no marks are kept, the types that may be used for something are exactly the types of its kind
pub unmarked : (o : Offer) (s : Scope) → IfSome (kind_for o) (λ k. kind_places k s ≡ marked_places (is_offered o) 0 s.types [])
unmarked offer.Value s = sym (unmarked_places (is_offered offer.Value) is_defined (λ t. and_true (is_defined t)) 0 s.types)
unmarked offer.Import s = sym (unmarked_places (is_offered offer.Import) is_func (λ t. and_true (is_func t && true) ∙ and_true (is_func t)) 0 s.types)
unmarked offer.Export s = sym (unmarked_places (is_offered offer.Export) is_func (λ t. and_true (is_func t && true) ∙ and_true (is_func t)) 0 s.types)
unmarked offer.Equal s = tt
unmarked offer.Component s = sym (unmarked_places (is_offered offer.Component) is_component (λ t. and_true (is_component t)) 0 s.types)
unmarked offer.Instance s = sym (unmarked_places (is_offered offer.Instance) is_instance (λ t. and_true (is_instance t)) 0 s.types)

-- of a scope, given what types and core types show
module _ {T C : Type 0} (shown : T → Entry) (core_shown : C → CoreEntry) (s : MarkedOf T C) where
  pub offered_by_kind : (o : Offer) (k : Kind) → kind_for o ≡ Some k → s.marks ≡ []
      → kind_places k (plain_scope shown core_shown (scope_in s)) ≡ offered_places o (plain_marked shown core_shown s)
  offered_by_kind o k is none =
      subst
      (λ r. IfSome r (λ k. kind_places k (plain_scope shown core_shown (scope_in s)) ≡ marked_places (is_offered o) 0 (map shown s.types) [])) is
      (unmarked o (plain_scope shown core_shown (scope_in s)))
      ∙ ap (marked_places (is_offered o) 0 (map shown s.types)) (sym none)

  -- and any type may be equal to another
  pub all_offered : s.marks ≡ [] → offered_places offer.Equal (plain_marked shown core_shown s) ≡ places (λ t. true) 0 (map shown s.types)
  all_offered none = grind (arith, unmarked_places)

  pub length-offered : (o : Offer) → length (offered_places o (plain_marked shown core_shown s)) ≤ length s.types
  length-offered o = omega (arith, length-marked_places (is_offered o) 0 (map shown s.types) s.marks, length-map s.types shown)

  -- what is offered is a type of the scope
  pub offered_within : (o : Offer) (k i : ℕ) → slice_get (offered_places o (plain_marked shown core_shown s)) k ≡ Some i → i < length s.types
  offered_within o k i h =
      omega (arith, marked_within (is_offered o) 0 (map shown s.types) s.marks k i h, length-map s.types shown)
