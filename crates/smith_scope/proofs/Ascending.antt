-- The positions of what passes a test ascend.
use Rattle.std.proofs.Common.{◌≡◌, ◌≤◌, ℕ, zero, suc, ◌+◌, ◌<◌, Bool, true, false, cond, List, [], ◌∷◌, length, sym, subst, arith}
use Rattle.std.specs.Prelude.{slice_index}
use Rattle.std.specs.List.Sorted.{IsStrictlyIncreasing}
use Rattle.smith_syntax.specs.Entries.{Entry}
use Rattle.smith_syntax.specs.Places.{places, is_core_func}
use Rattle.smith_syntax.specs.Scope.{Scope, is_component, is_core_module, is_defined, is_func, is_instance}
use Rattle.smith_syntax.specs.Usable.{first_mark, later_marks, marked_places}
use Rattle.smith_syntax.specs.declared.marks.Mark.{Mark}
use Rattle.smith_scope.specs.Positions.{kind_places}
use Rattle.smith_scope.specs.declared.kinds.Kind.{Kind}
use Rattle.smith_scope.specs.declared.kinds.Kind.TheVariants as kind

first_at : (i : ℕ) (ks : List ℕ) (b : Bool) → (0 < length ks → i + 1 ≤ slice_index ks 0)
    → 0 < length (cond b (i ∷ ks) ks) → i ≤ slice_index (cond b (i ∷ ks) ks) 0
first_at i ks true later h = omega arith
first_at i ks false later h = omega (arith, later h)

ascend_at : (i : ℕ) (ks : List ℕ) (b : Bool) → (0 < length ks → i + 1 ≤ slice_index ks 0) → IsStrictlyIncreasing ks
    → IsStrictlyIncreasing (cond b (i ∷ ks) ks)
ascend_at i ks true later s zero h = omega (arith, later (omega arith))
ascend_at i ks true later s (suc k) h = let next : suc k + 1 ≡ suc (k + 1) = omega arith in rw next (s k (omega (arith, h)))
ascend_at i ks false later s k h = s k h

module _ {A : Type 0} (test : A → Bool) where
  -- the first is no less than where the list begins
  first_place : (i : ℕ) (xs : List A) → 0 < length (places test i xs) → i ≤ slice_index (places test i xs) 0
  first_place i [] h = absurd (omega arith)
  first_place i (x ∷ xs) h = first_at i (places test (i + 1) xs) (test x) (first_place (i + 1) xs) h

  places_ascend : (i : ℕ) (xs : List A) → IsStrictlyIncreasing (places test i xs)
  places_ascend i [] k h = absurd (omega arith)
  places_ascend i (x ∷ xs) k h = ascend_at i (places test (i + 1) xs) (test x) (first_place (i + 1) xs) (places_ascend (i + 1) xs) k h

pub ascend_as : {A : Type 0} (test : A → Bool) (xs : List A) (ks : List ℕ) → ks ≡ places test 0 xs → IsStrictlyIncreasing ks
ascend_as test xs ks e = subst IsStrictlyIncreasing (sym e) (places_ascend test 0 xs)

-- so do the entries of a kind

pub kind_ascends : (k : Kind) (s : Scope) → IsStrictlyIncreasing (kind_places k s)
kind_ascends kind.Defined s = places_ascend is_defined 0 s.types
kind_ascends kind.Func s = places_ascend is_func 0 s.types
kind_ascends kind.Component s = places_ascend is_component 0 s.types
kind_ascends kind.Instance s = places_ascend is_instance 0 s.types
kind_ascends kind.CoreFunc s = places_ascend is_core_func 0 s.core_types
kind_ascends kind.CoreModule s = places_ascend is_core_module 0 s.core_types

-- and types with their marks

module _ (test : Entry → Mark → Bool) where
  first_marked : (i : ℕ) (ts : List Entry) (ms : List Mark) → 0 < length (marked_places test i ts ms) → i ≤ slice_index (marked_places test i ts ms) 0
  first_marked i [] ms h = absurd (omega arith)
  first_marked i (t ∷ ts) ms h =
      first_at i (marked_places test (i + 1) ts (later_marks ms)) (test t (first_mark ms)) (first_marked (i + 1) ts (later_marks ms)) h

  pub marked_ascend : (i : ℕ) (ts : List Entry) (ms : List Mark) → IsStrictlyIncreasing (marked_places test i ts ms)
  marked_ascend i [] ms = λ k h. absurd (omega arith)
  marked_ascend i (t ∷ ts) ms =
      ascend_at i (marked_places test (i + 1) ts (later_marks ms)) (test t (first_mark ms)) (first_marked (i + 1) ts (later_marks ms))
      (marked_ascend (i + 1) ts (later_marks ms))
