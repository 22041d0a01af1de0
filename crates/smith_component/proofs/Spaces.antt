-- What is in index spaces, and stays when they grow.
use Rattle.std.proofs.Common.{◌≡◌, ℕ, ◌+◌, ◌<◌, ◌≤◌, Bool, true, false, cond, List, [], ◌∷◌, ◌++◌, fold, map, length, refl, sym, ap, ◌∙◌}
use Rattle.std.proofs.Common.{arith, length-append, Some, None}
use Rattle.std.proofs.lemmas.Bool.{false≢true}
use Rattle.std.proofs.lemmas.Option.{slice_get_within}
use Rattle.std.specs.List.{AllByRecursion}
use Rattle.std.specs.Prelude.{slice_get}
use Rattle.smith_syntax.specs.Entries.{EntryOf, Entry, Signature, defined, function, component_type, instance_type, plain}
use Rattle.smith_syntax.specs.Flat.{is_scalar}
use Rattle.smith_syntax.specs.Places.{places}
use Rattle.smith_syntax.specs.Shown.{full_type, shown_type}
use Rattle.smith_syntax.specs.HasSignature.{has_signature, is_of_signature}
use Rattle.smith_syntax.specs.SameSignature.{same_signature_Decides}
use Rattle.smith_syntax.specs.declared.deftype.DefType.{DefType}
use Rattle.smith_scopes.specs.Scopes.{Contents, last_of, own_scope}
use Rattle.smith_scope.proofs.Places.{get_left, place_stands}
use Rattle.smith_scope.proofs.Places.{places-append}
use Rattle.smith_scopes.proofs.Stack.{own_last}
use Rattle.smith_tree.specs.Offers.{is_scalar_entry, is_scalar_type, scalar_functions}
use Rattle.smith_component.specs.Tables.{IsGrounded}
use Rattle.smith_tree.specs.Spaces.{Spaces, after_canon, spaces_of}
use Rattle.smith_tree.specs.Tree.{Tree, Canon, lift, lower, types}
use Rattle.smith_tree.specs.WellFormed.{HasSignature, FormedCanon, FormedCanons}
use Rattle.smith_component.proofs.Growth.{Extends, extends_canon, extends_part}
use Rattle.smith_component.proofs.Tables.{all_weaker, get_longer, places_agree}
use Rattle.smith_scopes.proofs.Plain.{all_both}
pub use Rattle.smith_input.proofs.Lists.{all_at}

pub get_last : {A : Type 0} (xs : List A) (x : A) → slice_get (xs ++ x ∷ []) (length xs) ≡ Some x
get_last [] x = refl
get_last (z ∷ xs) x = get_last xs x

-- the spaces with more types
abbrev pub with_entries : Spaces → List Entry → Spaces
with_entries s es = record { types = s.types ++ es; core_types = s.core_types; functions = s.functions; core_functions = s.core_functions }

-- a component function whose type flattens
abbrev pub IsScalarFunction : Spaces → ℕ → Type 0
IsScalarFunction s f = (signature : Signature) × HasSignature s f signature × (is_scalar signature ≡ true)

module _ {s u : Spaces} (e : Extends s u) where
  pub has_signature_stays : {f : ℕ} {signature : Signature} → HasSignature s f signature → HasSignature u f signature
  has_signature_stays {f} {signature} h = grind (arith, get_longer)

  pub scalar_stays : (f : ℕ) → IsScalarFunction s f → IsScalarFunction u f
  scalar_stays f (signature, h, is) = (signature, has_signature_stays h, is)

-- The types of all component functions are there, and all core functions lower one whose type flattens.
pub record Grounded (s : Spaces) : Type 0 where
  pub known : AllByRecursion (λ ty. ty < length s.types) s.functions
  pub lowered : AllByRecursion (IsScalarFunction s) s.core_functions

pub grounded_spaces : (t : Tree) → IsGrounded t → Grounded (spaces_of t)
grounded_spaces t g = record { known = g.known; lowered = g.lowered }

pub grounded_entries : (s : Spaces) (es : List Entry) → Grounded s → Grounded (with_entries s es)
grounded_entries s es g = record {
  known = all_weaker (λ ty. ty < length s.types) (λ ty. ty < length (s.types ++ es)) (λ ty h. omega (arith, h, length-append s.types es)) s.functions g.known;
  lowered = all_weaker (IsScalarFunction s) (IsScalarFunction (with_entries s es)) (scalar_stays (extends_part s (types es))) s.core_functions g.lowered;
}

-- A canonical function names what is there.
abbrev pub Names : Spaces → Canon → Type 0
Names s (lift c t) = t < length s.types
Names s (lower f) = IsScalarFunction s f

pub formed_names : (s : Spaces) (c : Canon) → FormedCanon s c → Names s c
formed_names s (lift c t) (signature, lowered, f, e, low, of, flat) = slice_get_within s.types t (function signature) e
formed_names s (lower f) h = h

pub grounded_canon : (s : Spaces) (c : Canon) → Names s c → Grounded s → Grounded (after_canon s c)
grounded_canon s (lift c t) h g = record {
  known = all_both (λ ty. ty < length s.types) s.functions (t ∷ []) g.known (h, tt);
  lowered =
      all_weaker (IsScalarFunction s) (IsScalarFunction (after_canon s (lift c t))) (scalar_stays (extends_canon s (lift c t))) s.core_functions g.lowered;
}
grounded_canon s (lower f) h g =
    let stays = scalar_stays (extends_canon s (lower f)) in
    let u : Spaces = after_canon s (lower f) in
    record {
      known = g.known;
      lowered =
          all_both (IsScalarFunction u) s.core_functions (f ∷ []) (all_weaker (IsScalarFunction s) (IsScalarFunction u) stays s.core_functions g.lowered)
          (stays f h, tt);
    }

-- More types leave the functions that can be lowered as they are.
pub scalars_entries : (s : Spaces) (es : List Entry) → Grounded s → scalar_functions (with_entries s es) ≡ scalar_functions s
scalars_entries s es g =
    places_agree (is_scalar_type (s.types ++ es)) (is_scalar_type s.types) 0 s.functions
    (all_weaker (λ ty. ty < length s.types) (λ ty. is_scalar_type (s.types ++ es) ty ≡ is_scalar_type s.types ty)
    (λ ty h. ap (λ o. elim o as (λ _. Bool) [ None ↦ false | Some e ↦ is_scalar_entry e ]) (get_left s.types es ty h)) s.functions g.known)

-- One more function follows them if its type flattens.
pub scalars_lift : (s : Spaces) (c t : ℕ) → scalar_functions (after_canon s (lift c t)) ≡ scalar_functions s ++ cond (is_scalar_type s.types t)
    (length s.functions ∷ []) []
scalars_lift s c t = grind (arith, places-append)

pub scalars_grow : (s : Spaces) (c : Canon) → length (scalar_functions s) ≤ length (scalar_functions (after_canon s c))
scalars_grow s (lift c t) = omega (
  arith,
  ap length (scalars_lift s c t),
  length-append (scalar_functions s) (cond (is_scalar_type s.types t) (length s.functions ∷ []) []),
)
scalars_grow s (lower f) = omega arith

-- Types by their signatures.

pub of_signature : (signature : Signature) (e : Entry) → is_of_signature signature e ≡ true → e ≡ function signature
of_signature s (function f) h = ap function (sym ((same_signature_Decides s f).0 h))
of_signature s _ h = absurd (false≢true h)

-- One that is equal to a signature, by its place, is of it.
pub equal_at : (ts : List Entry) (signature : Signature) (k t : ℕ) → slice_get (places (is_of_signature signature) 0 ts) k ≡ Some t
    → slice_get ts t ≡ Some (function signature)
equal_at ts signature k t h = grind (arith, place_stands, of_signature)

same_test : {N K : Type 0} (signature : Signature) (e : EntryOf N K) → is_of_signature signature e ≡ is_of_signature signature (plain e)
same_test s (defined t) = refl
same_test s (function f) = refl
same_test s (component_type ds) = refl
same_test s (instance_type ds) = refl

equal_places : (signature : Signature) (i : ℕ) (ts : List DefType)
    → places (has_signature signature) i ts ≡ places (is_of_signature signature) i (map shown_type ts)
equal_places signature i [] = refl
equal_places signature i (t ∷ ts) =
    let a = same_test signature (full_type t) in
    let r = equal_places signature (i + 1) ts in
    λ j. cond (a j) (i ∷ r j) (r j)

-- The last scope's are the component's.
pub equal_own : (scopes : List Contents) (signature : Signature)
    → places (has_signature signature) 0 (last_of scopes).types ≡ places (is_of_signature signature) 0 (own_scope scopes).types
equal_own scopes signature = equal_places signature 0 (last_of scopes).types ∙ ap (λ s. places (is_of_signature signature) 0 s.types) (sym (own_last scopes))

-- Canonical functions in a row, when one more is formed after them.
pub formed_canons-snoc : (s : Spaces) (cs : List Canon) (c : Canon) → FormedCanons cs s → FormedCanon (fold after_canon s cs) c → FormedCanons (cs ++ c ∷ []) s
formed_canons-snoc s [] c all h = (h, tt)
formed_canons-snoc s (d ∷ cs) c all h = (all.0, formed_canons-snoc (after_canon s d) cs c all.1 h)
