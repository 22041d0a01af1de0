-- How what is kept of a component grows with it.
use Rattle.std.proofs.Common.{◌≡◌, ℕ, ◌+◌, ◌<◌, Bool, true, false, List, [], ◌∷◌, ◌++◌, length, arith, ap, sym, subst, ◌∙◌, refl, append-nil}
use Rattle.std.proofs.Common.{length-append}
use Rattle.std.specs.List.{AllByRecursion, flat_map}
use Rattle.std.specs.Prelude.{Option, Some, None, slice_get, if◌then◌else◌}
use Rattle.std.proofs.lemmas.Bool.{false≢true}
use Rattle.std.proofs.lemmas.List.Concat.{flat_map-append}
use Rattle.std.proofs.lemmas.Option.{slice_get_within}
use Rattle.smith_input.specs.Names.{Holds}
use Rattle.smith_syntax.specs.Entries.{Entry, function, Signature}
use Rattle.smith_syntax.specs.Flat.{is_scalar}
use Rattle.smith_syntax.specs.Scope.{Scope}
use Rattle.smith_syntax.specs.Places.{places}
use Rattle.smith_scope.proofs.Places.{get_left, place_stands}
use Rattle.smith_scope.proofs.Places.{places-append}
use Rattle.smith_tree.specs.Offers.{is_scalar_entry, is_scalar_type, scalar_functions}
use Rattle.smith_component.specs.Tables.{AddsCoreFunction, AddsFunction, IsGrounded, IsLowerable, Tabled}
use Rattle.smith_tree.specs.Spaces.{spaces_of, types_of}
use Rattle.smith_tree.specs.Functions.{core_functions_of, functions_of}
use Rattle.smith_tree.specs.Tree.{Tree, Part, add, exports_of, function_count, own}
use Rattle.smith_tree.specs.WellFormed.{export_names, scope_of}
use Rattle.smith_component.specs.declared.builder.tables.Tables.{Tables}
use Rattle.smith_component.proofs.Tree.{own-add}
use Rattle.smith_scopes.proofs.Plain.{all_both}

-- the same for a part that adds nothing
pub own_bare : {A : Type 0} (f : Part → List A) (t : Tree) (p : Part) → f p ≡ [] → own f (add t p) ≡ own f t
own_bare f t p e = own-add f t p ∙ (ap (λ z. own f t ++ z) e ∙ append-nil (own f t))

-- one more entry in a part that is a list of entries
pub flat_map_more : {X A : Type 0} (f : X → List A) (xs : List X) (x : X) → flat_map f (xs ++ x ∷ []) ≡ flat_map f xs ++ f x
flat_map_more f xs x = flat_map-append f xs (x ∷ []) ∙ ap (λ z. flat_map f xs ++ z) (append-nil (f x))

-- a fact of each that implies another of each
pub all_weaker : {A : Type 0} (P Q : A → Type 0) → ((x : A) → P x → Q x) → (xs : List A) → AllByRecursion P xs → AllByRecursion Q xs
all_weaker P Q h [] all = tt
all_weaker P Q h (x ∷ xs) all = (h x all.0, all_weaker P Q h xs all.1)

-- Tests that agree have the same places.
pub places_agree : {A : Type 0} (p q : A → Bool) (i : ℕ) (xs : List A) → AllByRecursion (λ x. p x ≡ q x) xs → places p i xs ≡ places q i xs
places_agree p q i [] all = refl
places_agree p q i (x ∷ xs) all =
    let rest = places_agree p q (i + 1) xs all.1 in
    ap (λ b. if b then i ∷ places p (i + 1) xs else places p (i + 1) xs) all.0 ∙ ap (λ ks. if q x then i ∷ ks else ks) rest

-- what is in a list is in a longer one
pub get_longer : {A : Type 0} (xs more ys : List A) (k : ℕ) (x : A) → ys ≡ xs ++ more → slice_get xs k ≡ Some x → slice_get ys k ≡ Some x
get_longer xs more ys k x e h = ap (λ z. slice_get z k) e ∙ (get_left xs more k (slice_get_within xs k x h) ∙ h)

same_type : (ts more us : List Entry) → us ≡ ts ++ more → (ty : ℕ) → ty < length ts → is_scalar_type us ty ≡ is_scalar_type ts ty
same_type ts more us e ty h = grind (arith, get_left)

-- A function that can be lowered still can be when the component has more.
pub lowerable_more : (t u : Tree) (es : List Entry) (fs : List ℕ) → types_of u ≡ types_of t ++ es → functions_of u ≡ functions_of t ++ fs → (f : ℕ)
    → IsLowerable t f → IsLowerable u f
lowerable_more t u es fs e g f (signature, has, scalar) = grind (arith, get_longer)

-- The names of exports stay if there are no more of them.
pub held_exports : (old new : Tables) (t u : Tree) → Tabled old t → exports_of u ≡ exports_of t → new.exports ≡ old.exports
    → Holds new.exports (export_names (exports_of u))
held_exports old new t u tabled e same = grind arith

-- The tables of a component that has more types, functions and core functions, and its exports by name.
module _ (old new : Tables) (t u : Tree) (es : List Entry) (fs cs : List ℕ) (tabled : Tabled old t) (types : types_of u ≡ types_of t ++ es)
    (functions : functions_of u ≡ functions_of t ++ fs) (core_functions : core_functions_of u ≡ core_functions_of t ++ cs) where
  grounded_more : AllByRecursion (λ ty. ty < length (types_of u)) fs → AllByRecursion (IsLowerable u) cs → IsGrounded u
  grounded_more known lowered =
      let longer : (ty : ℕ) → ty < length (types_of t) → ty < length (types_of u) = λ ty h. omega (arith, h, ap length types, length-append (types_of t) es) in
      record {
        known =
            subst (AllByRecursion (λ ty. ty < length (types_of u))) (sym functions)
            (all_both (λ ty. ty < length (types_of u)) (functions_of t) fs
            (all_weaker (λ ty. ty < length (types_of t)) (λ ty. ty < length (types_of u)) longer (functions_of t) tabled.grounded.known) known);
        lowered =
            subst (AllByRecursion (IsLowerable u)) (sym core_functions)
            (all_both (IsLowerable u) (core_functions_of t) cs
            (all_weaker (IsLowerable t) (IsLowerable u) (lowerable_more t u es fs types functions) (core_functions_of t) tabled.grounded.lowered) lowered);
      }

  scalars_more : scalar_functions (spaces_of u) ≡ scalar_functions (spaces_of t) ++ places (is_scalar_type (types_of u)) (0 + length (functions_of t)) fs
  scalars_more = grind (arith, places_agree, all_weaker, same_type, places-append)

  pub tabled_more : (n : ℕ) → function_count u ≡ function_count t + n → new.counted ≡ old.counted + n → Holds new.exports (export_names (exports_of u))
      → AllByRecursion (λ ty. ty < length (types_of u)) fs → AllByRecursion (IsLowerable u) cs → new.functions.items ≡ old.functions.items ++ fs
      → new.core_functions.items ≡ old.core_functions.items ++ cs
      → new.scalars.items ≡ old.scalars.items ++ places (is_scalar_type (types_of u)) (length old.functions.items) fs → Tabled new u
  tabled_more n count counted exports known lowered fnew cnew snew = grind (arith, scalars_more, grounded_more)

-- the same list with nothing more
pub same_more : {A : Type 0} (xs ys : List A) → ys ≡ xs → ys ≡ xs ++ []
same_more xs ys e = e ∙ sym (append-nil xs)

-- One more component function, of a type that is there.
pub tabled_function : {own : Scope} {old new : Tables} {ty : ℕ} (t u : Tree) → own ≡ scope_of t → ty < length (types_of t) → Tabled old t
    → AddsFunction own 1 old ty new
    → types_of u ≡ types_of t → functions_of u ≡ functions_of t ++ ty ∷ [] → core_functions_of u ≡ core_functions_of t
    → function_count u ≡ function_count t + 1 → exports_of u ≡ exports_of t → Tabled new u
tabled_function {own} {old} {new} {ty} t u scope known tabled adds types functions core_functions count exports =
    let same : own.types ≡ types_of u = ap (λ s. s.types) scope ∙ sym types in
    tabled_more old new t u [] (ty ∷ []) [] tabled (same_more _ _ types) functions (same_more _ _ core_functions) 1 count adds.counted
    (held_exports old new t u tabled exports adds.exports) (omega (arith, known, ap length types), tt) tt
    adds.functions (same_more _ _ adds.core_functions)
    (adds.scalars ∙ ap (λ ts. old.scalars.items ++ (if is_scalar_type ts ty then length old.functions.items ∷ [] else [])) same)

-- One more core function, which lowers one that can be lowered.
pub tabled_core_function : {old new : Tables} {f : ℕ} (t u : Tree) → IsLowerable t f → Tabled old t → AddsCoreFunction old f new
    → types_of u ≡ types_of t → functions_of u ≡ functions_of t → core_functions_of u ≡ core_functions_of t ++ f ∷ []
    → function_count u ≡ function_count t + 1 → exports_of u ≡ exports_of t → Tabled new u
tabled_core_function {old} {new} {f} t u lowerable tabled adds types functions core_functions count exports =
    tabled_more old new t u [] [] (f ∷ []) tabled (same_more _ _ types) (same_more _ _ functions) core_functions 1 count adds.counted
    (held_exports old new t u tabled exports adds.exports) tt
    (lowerable_more t u [] [] (same_more _ _ types) (same_more _ _ functions) f lowerable, tt)
    (same_more _ _ adds.functions) adds.core_functions (same_more _ _ adds.scalars)

-- More types leave the tables as they are.
pub tabled_types : {tables : Tables} (t u : Tree) (es : List Entry) → Tabled tables t → types_of u ≡ types_of t ++ es → functions_of u ≡ functions_of t
    → core_functions_of u ≡ core_functions_of t → function_count u ≡ function_count t → exports_of u ≡ exports_of t → Tabled tables u
tabled_types {tables} t u es tabled types functions core_functions count exports =
    tabled_more tables tables t u es [] [] tabled types (same_more _ _ functions) (same_more _ _ core_functions) 0 (omega (arith, count)) (omega arith)
    (held_exports tables tables t u tabled exports refl) tt tt
    (same_more _ _ refl) (same_more _ _ refl) (same_more _ _ refl)

-- So does what adds none of all these.
pub tabled_quiet : {tables : Tables} (t u : Tree) → Tabled tables t → types_of u ≡ types_of t → functions_of u ≡ functions_of t
    → core_functions_of u ≡ core_functions_of t → function_count u ≡ function_count t → exports_of u ≡ exports_of t → Tabled tables u
tabled_quiet t u tabled types functions core_functions count exports =
    tabled_types t u [] tabled (same_more _ _ types) functions core_functions count exports

scalar_entry_is : (e : Entry) → is_scalar_entry e ≡ true → (signature : Signature) × (e ≡ function signature) × (is_scalar signature ≡ true)
scalar_entry_is (function s) h = (s, refl, h)
scalar_entry_is _ h = absurd (false≢true h)

-- A type that flattens is a function type.
pub scalar_type_is : (ts : List Entry) (ty : ℕ) → is_scalar_type ts ty ≡ true
    → (signature : Signature) × (slice_get ts ty ≡ Some (function signature)) × (is_scalar signature ≡ true)
scalar_type_is ts ty h = found (slice_get ts ty) refl h
  where
    found : (o : Option Entry) → slice_get ts ty ≡ o → (elim o [ None ↦ false | Some e ↦ is_scalar_entry e ]) ≡ true
        → (signature : Signature) × (slice_get ts ty ≡ Some (function signature)) × (is_scalar signature ≡ true)
    found None g i = absurd (false≢true i)
    found (Some e) g i = let s = scalar_entry_is e i in (s.0, g ∙ ap Some s.1, s.2)

-- A function whose type flattens can be lowered.
pub scalar_at : (t : Tree) (k f : ℕ) → slice_get (scalar_functions (spaces_of t)) k ≡ Some f → IsLowerable t f
scalar_at t k f h = grind (arith, place_stands, scalar_type_is)
