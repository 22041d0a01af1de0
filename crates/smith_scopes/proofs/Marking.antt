-- What is kept of scopes: what a declaration makes of it, and what outer aliases find in it.
use Rattle.std.proofs.Common.{◌≡◌, ℕ, ◌<◌, Bool, true, false, List, [], ◌∷◌, ◌++◌, get_or, length, refl, sym, ap, ◌∙◌, arith, length-append, Option, None, Some}
use Rattle.smith_syntax.specs.Entries.{DefValType, Signature, defined, function}
use Rattle.smith_syntax.specs.Marked.{Marked, MarkedOf, core_size_named, mark_named, mark, more_kept, with_export, with_import, with_marked, with_sized}
use Rattle.smith_syntax.specs.Marks.{no_mark}
use Rattle.smith_syntax.specs.declared.deftype.ComponentTypeRef.{ComponentTypeRef}
use Rattle.smith_syntax.specs.declared.marks.Mark.{Mark}
use Rattle.smith_scopes.specs.Scopes.{Changes, Contents, inward_marked, outer_marked, own_marked, scope_at}
use Rattle.smith_scopes.proofs.Stack.{Grown, GrownMarked, changed, changed_marked, marked_at, split_marked}

-- A change of the last scope keeps their number.
pub length-changed : (f : Contents → Contents) (old new : List Contents) → Changes f old new → length new ≡ length old
length-changed f old new a =
    ap length a.after ∙ length-append a.outer (f a.own ∷ []) ∙ sym (ap length a.before ∙ length-append a.outer (a.own ∷ []))

-- An import or an export is noted.

module _ (old new : List Contents) (r : ComponentTypeRef) where
  pub grown_import : Changes (λ d. with_import d r) old new → GrownMarked (λ s. with_import s r) old new
  grown_import a = changed_marked (λ d. with_import d r) (λ s. with_import s r) (λ d. refl) old new a

  pub grown_export : Changes (λ d. with_export d r) old new → GrownMarked (λ s. with_export s r) old new
  grown_export a = changed_marked (λ d. with_export d r) (λ s. with_export s r) (λ d. refl) old new a

  -- the scopes by themselves stay as they were

  pub same_import : Changes (λ d. with_import d r) old new → Grown (λ s. s) old new
  same_import a = changed (λ d. with_import d r) (λ s. s) (λ d. refl) old new a

  pub same_export : Changes (λ d. with_export d r) old new → Grown (λ s. s) old new
  same_export a = changed (λ d. with_export d r) (λ s. s) (λ d. refl) old new a

-- The mark of a type of values or of functions depends only on its own scope.

module _ (N K M L : Type 0) (own : Marked) (outer around : List Marked) where
  pub same_defined : (t : DefValType) → mark {N = N} {K = K} (defined t) own outer ≡ mark {N = M} {K = L} (defined t) own around
  same_defined t = refl

  pub same_function : (s : Signature) → mark {N = N} {K = K} (function s) own outer ≡ mark {N = M} {K = L} (function s) own around
  same_function s = refl

-- If nothing is kept, it does not matter what is added.

kept_alike : {A : Type 0} (keeps : Bool) (xs : List A) (x y : A) → (keeps ≡ true → x ≡ y) → more_kept keeps xs (x ∷ []) ≡ more_kept keeps xs (y ∷ [])
kept_alike true xs x y same = ap (λ z. xs ++ z ∷ []) (same refl)
kept_alike false xs x y same = refl

module _ {T C : Type 0} (s : MarkedOf T C) where
  pub marked_alike : (t : T) (m n : Mark) → (s.keeps ≡ true → m ≡ n) → with_marked s t m ≡ with_marked s t n
  marked_alike t m n same = ap (λ ms. record s { types = s.types ++ t ∷ []; marks = ms }) (kept_alike s.keeps s.marks m n same)

  pub sized_alike : (t : C) (m n : ℕ) → (s.keeps ≡ true → m ≡ n) → with_sized s t m ≡ with_sized s t n
  sized_alike t m n same = ap (λ ns. record s { core_types = s.core_types ++ t ∷ []; core_sizes = ns }) (kept_alike s.keeps s.core_sizes m n same)

-- What an outer alias names, as the scope of its count has it.
module _ (scopes : List Contents) (count i : ℕ) (within : count < length scopes) where
  split : inward_marked scopes ≡ own_marked scopes ∷ outer_marked scopes
  split = split_marked scopes (omega (arith, within))

  pub mark_found : get_or (scope_at scopes count).marks i no_mark ≡ mark_named (own_marked scopes ∷ outer_marked scopes) count i
  mark_found =
      sym (ap (λ (o : Option Marked). elim o as (λ o. Mark) [ None ↦ no_mark | Some s ↦ get_or s.marks i no_mark ]) (marked_at scopes count within))
      ∙ ap (λ ss. mark_named ss count i) split

  pub core_size_found : get_or (scope_at scopes count).core_sizes i 0 ≡ core_size_named (own_marked scopes ∷ outer_marked scopes) count i
  core_size_found =
      sym (ap (λ (o : Option Marked). elim o as (λ o. ℕ) [ None ↦ 0 | Some s ↦ get_or s.core_sizes i 0 ]) (marked_at scopes count within))
      ∙ ap (λ ss. core_size_named ss count i) split
