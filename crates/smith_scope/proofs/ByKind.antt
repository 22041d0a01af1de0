-- The positions of the entries of each kind, with one entry more.
use Rattle.std.proofs.Common.{◌≡◌, ℕ, ◌<◌, ◌≤◌, Bool, true, false, cond, List, [], ◌∷◌, ◌++◌, length, map, refl, sym, ap, ◌∙◌, arith, append-nil}
use Rattle.std.proofs.lemmas.List.{map-append, length-map}
use Rattle.std.specs.Prelude.{Some, slice_get}
use Rattle.std.specs.declared.alloc.Global.{Global}
use Rattle.std.specs.declared.rc.Rc.{Rc}
use Rattle.smith_syntax.specs.Entries.{Entry, CoreEntry, Decls, DefValType, Signature, plain}
use Rattle.smith_syntax.specs.Entries.{defined, function, component_type, instance_type, core_func, core_module}
use Rattle.smith_syntax.specs.Places.{places, is_core_func}
use Rattle.smith_syntax.specs.Scope.{Scope, ScopeOf, with_type, with_core_type, is_defined, is_func, is_component, is_instance, is_core_module}
use Rattle.smith_syntax.specs.Shown.{shown_type}
use Rattle.smith_syntax.specs.declared.deftype.ComponentType.{ComponentType}
use Rattle.smith_syntax.specs.declared.deftype.DefType.TheVariants as def
use Rattle.smith_syntax.specs.declared.deftype.InstanceType.{InstanceType}
use Rattle.smith_syntax.specs.declared.func.FuncType.{FuncType}
use Rattle.smith_syntax.specs.declared.types.DefinedType.{DefinedType}
use Rattle.smith_syntax.proofs.Shown.{full_defined, full_func, full_component, full_instance}
use Rattle.smith_scope.specs.Positions.{ByKind, by_kind, core_kind_of, kind_of, kind_places, of_kind, plain_scope, with_place}
use Rattle.smith_scope.specs.declared.kinds.Kind.{Kind}
use Rattle.smith_scope.specs.declared.kinds.Kind.TheVariants as kind
use Rattle.smith_scope.proofs.Places.{place_within}
use Rattle.smith_scope.proofs.Places.{length-places, places-snoc}

-- the kinds of types that are made

pub kind_defined : (t : DefinedType) → kind_of (shown_type (def.Defined t)) ≡ kind.Defined
kind_defined t = ap (λ e. kind_of (plain e)) (full_defined t)

pub kind_func : (f : Rc FuncType Global) → kind_of (shown_type (def.Func f)) ≡ kind.Func
kind_func f = ap (λ e. kind_of (plain e)) (full_func f)

pub kind_component : (t : ComponentType) → kind_of (shown_type (def.Component t)) ≡ kind.Component
kind_component t = ap (λ e. kind_of (plain e)) (full_component t)

pub kind_instance : (t : InstanceType) → kind_of (shown_type (def.Instance t)) ≡ kind.Instance
kind_instance t = ap (λ e. kind_of (plain e)) (full_instance t)

pub ruleset made_kinds = (kind_defined, kind_func, kind_component, kind_instance)

-- one entry more, of a kind or of another

module _ {A : Type 0} (p : A → Bool) (xs : List A) (x : A) where
  more : p x ≡ true → places p 0 (xs ++ x ∷ []) ≡ places p 0 xs ++ length xs ∷ []
  more e = places-snoc p xs x true e

  same : p x ≡ false → places p 0 (xs ++ x ∷ []) ≡ places p 0 xs
  same e = places-snoc p xs x false e ∙ append-nil (places p 0 xs)

module _ (s : Scope) where
  abbrev types_by : (a b c d : List ℕ) → ByKind
  types_by a b c d = record {
    defined = a;
    funcs = b;
    components = c;
    instances = d;
    core_funcs = kind_places kind.CoreFunc s;
    core_modules = kind_places kind.CoreModule s;
  }

  by_types : {a b c d e f g h : List ℕ} → a ≡ e → b ≡ f → c ≡ g → d ≡ h → types_by a b c d ≡ types_by e f g h
  by_types i j k l = rw (i, j, k, l) refl

  pub type_placed : (t : Entry) → by_kind (with_type s t) ≡ with_place (by_kind s) (kind_of t) (length s.types)
  type_placed (defined t) = grind (arith, by_types, more, same)
  type_placed (function f) = grind (arith, by_types, same, more)
  type_placed (component_type ds) = grind (arith, by_types, same, more)
  type_placed (instance_type ds) = grind (arith, by_types, same, more)

  abbrev core_types_by : (a b : List ℕ) → ByKind
  core_types_by a b = record {
    defined = kind_places kind.Defined s;
    funcs = kind_places kind.Func s;
    components = kind_places kind.Component s;
    instances = kind_places kind.Instance s;
    core_funcs = a;
    core_modules = b;
  }

  by_core_types : {a b c d : List ℕ} → a ≡ c → b ≡ d → core_types_by a b ≡ core_types_by c d
  by_core_types i j = rw (i, j) refl

  pub core_type_placed : (t : CoreEntry) → by_kind (with_core_type s t) ≡ with_place (by_kind s) (core_kind_of t) (length s.core_types)
  core_type_placed (core_func f) =
      let e = core_func f in by_core_types (more is_core_func s.core_types e refl) (same is_core_module s.core_types e refl)
  core_type_placed (core_module ds) =
      let e = core_module ds in by_core_types (same is_core_func s.core_types e refl) (more is_core_module s.core_types e refl)

-- the places of what passes a test among what a list shows, with one item more
module _ {A T E : Type 0} (tree : A → T) (shown : T → E) (xs : List A) (i : ℕ) (at : i ≡ length xs) (x : A) (new : List A) (to : new ≡ xs ++ x ∷ [])
    (p : E → Bool) {row : List ℕ} (are : row ≡ places p 0 (map shown (map tree xs))) where
  with_more : (b : Bool) → p (shown (tree x)) ≡ b → places p 0 (map shown (map tree new)) ≡ row ++ cond b (i ∷ []) []
  with_more b is = grind (arith, map-append, places-snoc, length-map)

  -- one that passes
  pub gained : {later : List ℕ} → p (shown (tree x)) ≡ true → later ≡ row ++ i ∷ [] → later ≡ places p 0 (map shown (map tree new))
  gained is e = e ∙ sym (with_more true is)

  -- one that does not
  pub unchanged : {later : List ℕ} → p (shown (tree x)) ≡ false → later ≡ row → later ≡ places p 0 (map shown (map tree new))
  unchanged is e = e ∙ sym (with_more false is ∙ append-nil row)

-- the same of lists of what a scope has
module _ {A T B C : Type 0} (tree : A → T) (shown : T → Entry) (core_tree : B → C) (core_shown : C → CoreEntry) where
  abbrev shown_of : List A → List B → Scope
  shown_of ts cs = record { types = map shown (map tree ts); core_types = map core_shown (map core_tree cs) }

  module _ (types : List A) (core_types : List B) (was : ByKind) (tied : was ≡ by_kind (shown_of types core_types)) where
    pub type_pushed : (ty : A) (new : List A) → new ≡ types ++ ty ∷ [] → (i : ℕ) → i ≡ length types → (k : Kind) → k ≡ kind_of (shown (tree ty))
        → (now : ByKind) → now ≡ with_place was k i → now ≡ by_kind (shown_of new core_types)
    type_pushed ty new listed i at k is now to =
        let s = shown_of types core_types in
        let many : i ≡ length (map shown (map tree types)) = omega (arith, at, length-map (map tree types) shown, length-map types tree) in
        let grown : map shown (map tree new) ≡ map shown (map tree types) ++ shown (tree ty) ∷ [] =
        ap (λ ts. map shown (map tree ts)) listed
        ∙ ap (map shown) (map-append tree types (ty ∷ []))
        ∙ map-append shown (map tree types) (tree ty ∷ []) in
        to ∙ ap (λ p. with_place p k i) tied
        ∙ ap (λ j. with_place (by_kind s) j i) is
        ∙ ap (with_place (by_kind s) (kind_of (shown (tree ty)))) many
        ∙ sym (type_placed s (shown (tree ty)))
        ∙ ap (λ ts. by_kind (record { types = ts; core_types = map core_shown (map core_tree core_types) })) (sym grown)

    pub core_type_pushed : (ty : B) (new : List B) → new ≡ core_types ++ ty ∷ [] → (i : ℕ) → i ≡ length core_types → (k : Kind)
        → k ≡ core_kind_of (core_shown (core_tree ty)) → (now : ByKind) → now ≡ with_place was k i → now ≡ by_kind (shown_of types new)
    core_type_pushed ty new listed i at k is now to =
        let s = shown_of types core_types in
        let many : i ≡ length (map core_shown (map core_tree core_types)) =
        omega (arith, at, length-map (map core_tree core_types) core_shown, length-map core_types core_tree) in
        let grown : map core_shown (map core_tree new) ≡ map core_shown (map core_tree core_types) ++ core_shown (core_tree ty) ∷ [] =
        ap (λ ts. map core_shown (map core_tree ts)) listed
        ∙ ap (map core_shown) (map-append core_tree core_types (ty ∷ []))
        ∙ map-append core_shown (map core_tree core_types) (core_tree ty ∷ []) in
        to ∙ ap (λ p. with_place p k i) tied
        ∙ ap (λ j. with_place (by_kind s) j i) is
        ∙ ap (with_place (by_kind s) (core_kind_of (core_shown (core_tree ty)))) many
        ∙ sym (core_type_placed s (core_shown (core_tree ty)))
        ∙ ap (λ ts. by_kind (record { types = map shown (map tree types); core_types = ts })) (sym grown)

pub of_by_kind : (k : Kind) (s : Scope) → of_kind k (by_kind s) ≡ kind_places k s
of_by_kind kind.Defined s = refl
of_by_kind kind.Func s = refl
of_by_kind kind.Component s = refl
of_by_kind kind.Instance s = refl
of_by_kind kind.CoreFunc s = refl
of_by_kind kind.CoreModule s = refl

-- what holds of each type of a kind holds of a type of that kind
module _ (P : Entry → Type 0) where
  pub each_defined : ((t : DefValType) → P (defined t)) → (e : Entry) → kind_of e ≡ kind.Defined → P e
  each_defined h (defined t) is = h t
  each_defined h (function s) is = absurd (let z : kind.Func ≡ kind.Defined = is in cc)
  each_defined h (component_type ds) is = absurd (let z : kind.Component ≡ kind.Defined = is in cc)
  each_defined h (instance_type ds) is = absurd (let z : kind.Instance ≡ kind.Defined = is in cc)

  pub each_function : ((s : Signature) → P (function s)) → (e : Entry) → kind_of e ≡ kind.Func → P e
  each_function h (defined t) is = absurd (let z : kind.Defined ≡ kind.Func = is in cc)
  each_function h (function s) is = h s
  each_function h (component_type ds) is = absurd (let z : kind.Component ≡ kind.Func = is in cc)
  each_function h (instance_type ds) is = absurd (let z : kind.Instance ≡ kind.Func = is in cc)

  pub each_component : ((ds : Decls) → P (component_type ds)) → (e : Entry) → kind_of e ≡ kind.Component → P e
  each_component h (defined t) is = absurd (let z : kind.Defined ≡ kind.Component = is in cc)
  each_component h (function s) is = absurd (let z : kind.Func ≡ kind.Component = is in cc)
  each_component h (component_type ds) is = h ds
  each_component h (instance_type ds) is = absurd (let z : kind.Instance ≡ kind.Component = is in cc)

  pub each_instance : ((ds : Decls) → P (instance_type ds)) → (e : Entry) → kind_of e ≡ kind.Instance → P e
  each_instance h (defined t) is = absurd (let z : kind.Defined ≡ kind.Instance = is in cc)
  each_instance h (function s) is = absurd (let z : kind.Func ≡ kind.Instance = is in cc)
  each_instance h (component_type ds) is = absurd (let z : kind.Component ≡ kind.Instance = is in cc)
  each_instance h (instance_type ds) is = h ds

-- a kind has no more entries than there are, and each of its positions is one of theirs

module _ {T C : Type 0} (shown : T → Entry) (core_shown : C → CoreEntry) (s : ScopeOf T C) (n : ℕ) (few : length s.types ≤ n)
    (few_core : length s.core_types ≤ n) where
  few_in : {A B : Type 0} (f : A → B) (xs : List A) (p : B → Bool) → length xs ≤ n → length (places p 0 (map f xs)) ≤ n
  few_in f xs p h = omega (arith, length-places p 0 (map f xs), length-map xs f, h)

  pub few_of_kind : (k : Kind) → length (kind_places k (plain_scope shown core_shown s)) ≤ n
  few_of_kind kind.Defined = few_in shown s.types is_defined few
  few_of_kind kind.Func = few_in shown s.types is_func few
  few_of_kind kind.Component = few_in shown s.types is_component few
  few_of_kind kind.Instance = few_in shown s.types is_instance few
  few_of_kind kind.CoreFunc = few_in core_shown s.core_types is_core_func few_core
  few_of_kind kind.CoreModule = few_in core_shown s.core_types is_core_module few_core

  within : {A B : Type 0} (f : A → B) (xs : List A) (p : B → Bool) → length xs ≤ n → (j i : ℕ) → slice_get (places p 0 (map f xs)) j ≡ Some i → i < n
  within f xs p h j i e = omega (arith, place_within p (map f xs) j i e, length-map xs f, h)

  pub kind_within : (k : Kind) (j i : ℕ) → slice_get (kind_places k (plain_scope shown core_shown s)) j ≡ Some i → i < n
  kind_within kind.Defined = within shown s.types is_defined few
  kind_within kind.Func = within shown s.types is_func few
  kind_within kind.Component = within shown s.types is_component few
  kind_within kind.Instance = within shown s.types is_instance few
  kind_within kind.CoreFunc = within core_shown s.core_types is_core_func few_core
  kind_within kind.CoreModule = within core_shown s.core_types is_core_module few_core
