-- Entries of sections, which remain well formed.
use Rattle.std.proofs.Common.{◌≡◌, ℕ, ◌+◌, ◌<◌, ◌≤◌, Bool, true, false, List, [], ◌∷◌, ◌++◌, Option, None, Some, append-nil, fold, length, ap}
use Rattle.std.proofs.Common.{sym, refl, subst, ◌∙◌, arith, nat_eq}
use Rattle.std.proofs.lemmas.Bool.Decides.{nat_tests}
use Rattle.std.proofs.lemmas.Option.{slice_get_within}
use Rattle.std.specs.Prelude.{if◌then◌else◌, slice_get}
use Rattle.std.proofs.lemmas.Bool.{and_parts}
use Rattle.std.specs.List.{AllByRecursion, list_all}
use Rattle.std.specs.Option.{is_some, option_map, option_to_list}
use Rattle.smith_syntax.specs.Entries.{CoreEntry, Entry, Field, ImportEntry, Signature, function}
use Rattle.smith_syntax.specs.Flat.{flat_value, is_scalar, is_scalar_result}
use Rattle.smith_syntax.specs.Scope.{Scope}
use Rattle.smith_syntax.specs.WellFormed.{FormedCore, FormedEntry, FormedRef}
use Rattle.smith_syntax.specs.declared.deftype.ComponentTypeRef.{ComponentTypeRef}
use Rattle.smith_syntax.specs.declared.deftype.ComponentTypeRef.TheVariants as to
use Rattle.smith_syntax.specs.declared.types.ComponentValType.{ComponentValType}
use Rattle.smith_syntax.specs.declared.types.ComponentValType.TheVariants.{Primitive, Indexed}
use Rattle.smith_tree.specs.Spaces.{Spaces, after_canon, after_export, after_import}
use Rattle.smith_tree.specs.Tree.{Canon, ExportEntry, function_of, lift, lower}
use Rattle.smith_tree.specs.WellFormed.{FormedCanon, FormedImport}
use Rattle.smith_edit.specs.Edited.{after_canon as edit_canon, after_core, after_export as edit_export, after_import as edit_import, after_one, after_ref}
use Rattle.smith_edit.specs.Edited.{after_rows, after_type, canon_edited}
use Rattle.smith_edit.specs.Edited.{core_edited, core_row, entry_edited, export_edited, field_edited, import_edited, members, one, optional_edited}
use Rattle.smith_edit.specs.Edited.{ref_edited, rows, signature_edited, type_row, value_edited}
use Rattle.smith_edit.specs.Items.{function_members, signature_items}
use Rattle.smith_edit.specs.Removal.{past, removes}
use Rattle.smith_edit.specs.Renumbering.{Renumbering, entry_at, index_left, new_index, with_like}
use Rattle.smith_edit.specs.Walk.{Walk, skipped, with_function, with_type}
use Rattle.smith_edit.specs.declared.walk.Removal.{Removal}
use Rattle.smith_edit.specs.declared.walk.Removal.TheVariants.{Everything}
use Rattle.smith_edit.specs.declared.renumbering.Fate.{Fate}
use Rattle.smith_edit.specs.declared.renumbering.Fate.TheVariants.{Kept, Changed, Removed}
use Rattle.smith_edit.specs.declared.walk.Scope.{Scope as Indexes}
use Rattle.smith_edit.proofs.Alike.{Alike, Same}
use Rattle.smith_edit.proofs.Shorter.{members_fewer, optional_fewer}
use Rattle.smith_edit.proofs.Follows.{Stays, entry_there, get_other, kept_follows, some_at}
use Rattle.smith_edit.proofs.FormedCores.{alike_core, formed_core}
use Rattle.smith_edit.proofs.FormedDecls.{formed_entry}
use Rattle.smith_edit.proofs.FormedTypes.{ScopesFollow, alike_entry, formed_ref, loose, some_index}
use Rattle.smith_edit.proofs.Perhaps.{Perhaps, both, either, gives, mapped, more, nothing, whatever}
use Rattle.smith_edit.proofs.Places.{OfFunction, OfType, PlaceFollows, core_function_kept, core_function_removed, core_kept, core_removed, flat_scalar}
use Rattle.smith_edit.proofs.Places.{function_left, function_removed, kept_entry, same_signature, same_type, scope, type_left, type_removed}

-- How entries that are judged by what is before them remain: what is removed adds nothing, and what is left is as it should be.
pub record Remaining {A : Type 0} (Ok : A → Spaces → List Scope → Type 0) (adds : Spaces → A → Spaces) (edited : Walk → A → Option A)
    (after : Indexes → A → Option A → Indexes) : Type 0 where
  pub removed : (w : Walk) (s s2 : Spaces) (outer outer2 : List Scope) → PlaceFollows w.own s s2 → ScopesFollow w.outer outer outer2 → (x : A) → Ok x s outer
      → PlaceFollows (after w.own x None) (adds s x) s2
  pub left : (w : Walk) (s s2 : Spaces) (outer outer2 : List Scope) → PlaceFollows w.own s s2 → ScopesFollow w.outer outer outer2 → (x : A) → Ok x s outer
      → Perhaps (λ y. Ok y s2 outer2 × PlaceFollows (after w.own x (Some y)) (adds s x) (adds s2 y)) (edited w x)

-- All is what is said of entries in order: of each one by what is before it, and of the ones after it.
module _ {A : Type 0} (Ok : A → Spaces → List Scope → Type 0) (adds : Spaces → A → Spaces) (All : List A → Spaces → List Scope → Type 0)
    (none : (s : Spaces) (outer : List Scope) → All [] s outer)
    (apart : (x : A) (xs : List A) (s : Spaces) (outer : List Scope) → All (x ∷ xs) s outer → Ok x s outer × All xs (adds s x) outer)
    (joined : (x : A) (xs : List A) (s : Spaces) (outer : List Scope) → Ok x s outer × All xs (adds s x) outer → All (x ∷ xs) s outer) where
  module _ (items : A → ℕ) (edited : Walk → A → Option A) (after : Indexes → A → Option A → Indexes) (row : Remaining Ok adds edited after) where
    row_then : {o : Option A} (w : Walk) (s s2 : Spaces) (outer outer2 : List Scope) → PlaceFollows w.own s s2 → ScopesFollow w.outer outer outer2
        → (x : A) → Ok x s outer → Perhaps (λ y. Ok y s2 outer2 × PlaceFollows (after w.own x (Some y)) (adds s x) (adds s2 y)) o
        → (v : Walk) (xs later : List A)
        → ((s3 : Spaces) → PlaceFollows (after w.own x o) (adds s x) s3
        → All later s3 outer2 × PlaceFollows v.own (fold adds (adds s x) xs) (fold adds s3 later))
        → All (option_to_list o ++ later) s2 outer2 × PlaceFollows v.own (fold adds (adds s x) xs) (fold adds s2 (option_to_list o ++ later))
    row_then w s s2 outer outer2 p q x h (nothing why) v xs later go = go s2 (row.removed w s s2 outer outer2 p q x h)
    row_then w s s2 outer outer2 p q x h (gives y k) v xs later go = grind arith

    pub rows_formed : (xs : List A) (w : Walk) (s s2 : Spaces) (outer outer2 : List Scope) → PlaceFollows w.own s s2 → ScopesFollow w.outer outer outer2
        → All xs s outer
        → All (rows items edited after w xs) s2 outer2
        × PlaceFollows (after_rows items edited after w xs).own (fold adds s xs) (fold adds s2 (rows items edited after w xs))
    rows_formed [] w s s2 outer outer2 p q h = (none s2 outer2, p)
    rows_formed (x ∷ xs) w s s2 outer outer2 p q h =
        let v : Walk = after_one items edited after w x in
        let (ok, others) = apart x xs s outer h in
        row_then (skipped 1 w) s s2 outer outer2 p q x ok (either (removes w.removal) (nothing tt) (row.left (skipped 1 w) s s2 outer outer2 p q x ok))
        (after_rows items edited after v xs) xs (rows items edited after v xs) (λ s3 f. rows_formed xs v (adds s x) s3 outer outer2 f q others)

-- if everything is removed
pub rows_nothing : {A : Type 0} (items : A → ℕ) (edited : Walk → A → Option A) (after : Indexes → A → Option A → Indexes) (xs : List A) (w : Walk)
    → w.removal ≡ Everything
    → rows items edited after w xs ≡ []
rows_nothing items edited after [] w e = refl
rows_nothing {A = A} items edited after (x ∷ xs) w e =
    let v : Walk = after_one items edited after w x in
    let none : one items edited after w x ≡ None = ap (λ r. if removes r then None else edited (skipped 1 w) x) e in
    ap (λ (o : Option A). option_to_list o ++ rows items edited after v xs) none ∙ rows_nothing items edited after xs v (ap (past (items x + 1)) e)

-- core types

abbrev pub CoreOk : CoreEntry → Spaces → List Scope → Type 0
CoreOk t s outer = FormedCore t s.core_types

abbrev pub adds_core : Spaces → CoreEntry → Spaces
adds_core s t = record s { core_types = s.core_types ++ t ∷ [] }

pub cores_remain : Remaining CoreOk adds_core core_row after_core
cores_remain = record {
  removed = λ w s s2 outer outer2 p q t h. core_removed w.own s s2 p t;
  left = λ w s s2 outer outer2 p q t h. gives (core_edited w t)
      (formed_core t w s.core_types s2.core_types p.kinds.core_types h, core_kept w.own s s2 p t (core_edited w t) (alike_core t w Kept));
}

-- a signature of scalars that keeps all of its members

module _ {A : Type 0} (edited : A → Option A) where
  first_same : {o : Option A} (x : A) → Perhaps (λ y. y ≡ x) o → (rest xs : List A) → length (option_to_list o ++ rest) ≡ length (x ∷ xs)
      → length rest ≤ length xs → (length rest ≡ length xs → rest ≡ xs) → option_to_list o ++ rest ≡ x ∷ xs
  first_same x (nothing why) rest xs n few h = absurd (omega (arith, n, few))
  first_same x (gives y is) rest xs n few h = rw (is, h (omega (arith, n))) refl

  pub members_same : (r : Removal) (xs : List A) → AllByRecursion (λ x. edited x ≡ Some x) xs → length (members edited r xs) ≡ length xs
      → members edited r xs ≡ xs
  members_same r [] all n = refl
  members_same r (x ∷ xs) all n =
      let few = members_fewer edited (past 1 r) xs in
      first_same x (either (removes r) (nothing tt) (subst (Perhaps (λ y. y ≡ x)) (sym all.0) (gives x refl))) (members edited (past 1 r) xs) xs n
      (omega (arith, few)) (members_same (past 1 r) xs all.1)

scalar_value : (s : Renumbering) (v : ComponentValType) → is_some (flat_value v) ≡ true → value_edited s v ≡ Some v
scalar_value s (Primitive p) h = refl
scalar_value s (Indexed i) h = absurd cc

scalar_fields : (s : Renumbering) (fs : List Field) → list_all (λ f. is_some (flat_value f.1)) fs ≡ true → AllByRecursion (λ f. field_edited s f ≡ Some f) fs
scalar_fields s [] h = tt
scalar_fields s (f ∷ fs) h =
    let both = and_parts (is_some (flat_value f.1)) (list_all (λ f. is_some (flat_value f.1)) fs) h in
    (ap (option_map (λ v. (f.0, v))) (scalar_value s f.1 both.0), scalar_fields s fs both.1)

result_by : (s : Renumbering) (b : Bool) (o : Option ComponentValType) (v : ComponentValType) → o ≡ Some v
    → length (option_to_list (if b then None else o)) ≡ 1 → (if b then None else o) ≡ Some v
result_by s true o v e n = absurd (omega (arith, n))
result_by s false o v e n = e

scalar_result : (s : Renumbering) (r : Removal) (o : Option ComponentValType) → is_scalar_result o ≡ true
    → length (option_to_list (optional_edited s r o)) ≡ length (option_to_list o) → optional_edited s r o ≡ o
scalar_result s r None h n = refl
scalar_result s r (Some v) h n = result_by s (removes r) (value_edited s v) v (scalar_value s v h) n

scalar_same : (s : Renumbering) (r : Removal) (g : Signature) → is_scalar g ≡ true → signature_items (signature_edited s r g) ≡ signature_items g
    → signature_edited s r g ≡ g
scalar_same s r g h n =
    let both = and_parts (list_all (λ p. is_some (flat_value p.1)) g.params) (is_scalar_result g.result) h in
    let last : Removal = past (length g.params) r in
    let few = members_fewer (field_edited s) r g.params in
    let few_results = optional_fewer s last g.result in
    let params = members_same (field_edited s) r g.params (scalar_fields s g.params both.0) (omega (arith, n, few, few_results)) in
    let result = scalar_result s last g.result both.1 (omega (arith, n, few, few_results)) in
    ap (λ (ps : List Field). record { params = ps; result = optional_edited s last g.result }) params
    ∙ ap (λ (o : Option ComponentValType). record { params = g.params; result = o }) result

-- types

abbrev pub TypeOk : Entry → Spaces → List Scope → Type 0
TypeOk e s outer = FormedEntry e (scope s) outer

abbrev pub adds_type : Spaces → Entry → Spaces
adds_type s e = record s { types = s.types ++ e ∷ [] }

same_type_left : (e : Entry) (w : Walk) → Perhaps (λ x. nat_eq (function_members x) (function_members e) ≡ true → Same Kept e x) (entry_edited e w)
same_type_left (function g) w = grind (arith, gives, nat_tests, scalar_same)
same_type_left e w = whatever (entry_edited e w) (λ x n. record { same = λ kept g is scalar. absurd cc })

type_by : (own : Indexes) (s s2 : Spaces) → PlaceFollows own s s2 → (e x : Entry) → Alike Kept e x → (b : Bool) → (b ≡ true → Same Kept e x)
    → PlaceFollows (with_type own (if b then Kept else Changed)) (adds_type s e) (adds_type s2 x)
type_by own s s2 p e x alike true same = type_left own s s2 p Kept tt e x alike (same refl)
type_by own s s2 p e x alike false same =
    type_left own s s2 p Changed tt e x (loose Kept Changed e x alike) (record { same = λ no g is scalar. absurd cc })

pub types_remain : Remaining TypeOk adds_type type_row after_type
types_remain = record {
  removed = λ w s s2 outer outer2 p q e h. type_removed w.own s s2 p e;
  left = λ w s s2 outer outer2 p q e h. more
      (λ x k. (k.0, type_by w.own s s2 p e x k.1.0 (nat_eq (function_members x) (function_members e)) k.1.1))
      (both (formed_entry e w (scope s) (scope s2) outer outer2 (record { here = p.kinds; around = q }) h) (both (alike_entry e w Kept) (same_type_left e w)));
}

-- canonical functions

abbrev pub CanonOk : Canon → Spaces → List Scope → Type 0
CanonOk c s outer = FormedCanon s c

lift_by : {o p : Option ℕ} {P Q : ℕ → Type 0} {R : Canon → Type 0} → Perhaps P o → Perhaps Q p → ((d u : ℕ) → P d → Q u → R (lift d u))
    → Perhaps R (elim o [ None ↦ None | Some d ↦ option_map (lift d) p ])
lift_by (nothing why) g h = nothing tt
lift_by (gives d k) g h = mapped (lift d) (λ u l. h d u k l) g

canon_removed : (own : Indexes) (s s2 : Spaces) → PlaceFollows own s s2 → (c : Canon) → PlaceFollows (edit_canon own c None) (after_canon s c) s2
canon_removed own s s2 p (lift c t) = function_removed own s s2 p t
canon_removed own s s2 p (lower f) = core_function_removed own s s2 p f

canon_left : (w : Walk) (s s2 : Spaces) → PlaceFollows w.own s s2 → (c : Canon) → FormedCanon s c
    → Perhaps (λ d. FormedCanon s2 d × PlaceFollows (edit_canon w.own c (Some d)) (after_canon s c) (after_canon s2 d)) (canon_edited w c)
canon_left w s s2 p (lower f) (signature, has, scalar) =
    mapped lower (λ g there. ((signature, same_signature w.own s s2 p f g signature has scalar there, scalar), core_function_kept w.own s s2 p f g there))
    (kept_entry w.own.functions s.functions p.functions.count f has.ty has.stands)
canon_left w s s2 p (lift c t) (signature, lowered, f, type_is, core_is, has, flat) =
    let (common, signature_flat, lowered_flat) = flat in
    lift_by
    (kept_follows (OfFunction w.own.functions) w.own.core_functions s.core_functions s2.core_functions p.core_functions c f core_is)
    (kept_entry w.own.types s.types p.same.count t (function signature) type_is)
    (λ d u core there. (
      (
        signature,
        lowered,
        core.0,
        same_type w.own s s2 p t u signature type_is (flat_scalar signature common signature_flat) there,
        core.1,
        same_signature w.own s s2 p f core.0 lowered has (flat_scalar lowered common lowered_flat) core.2,
        flat,
      ),
      function_left w.own s s2 p Kept tt t u there,
    ))

pub canons_remain : Remaining CanonOk after_canon canon_edited edit_canon
canons_remain = record {
  removed = λ w s s2 outer outer2 p q c h. canon_removed w.own s s2 p c;
  left = λ w s s2 outer outer2 p q c h. canon_left w s s2 p c h;
}

-- imports and exports

abbrev pub ImportOk : ImportEntry → Spaces → List Scope → Type 0
ImportOk i s outer = FormedImport (scope s) i

abbrev pub ExportOk : ExportEntry → Spaces → List Scope → Type 0
ExportOk e s outer = e.func < length s.functions

module _ (own : Indexes) (s s2 : Spaces) (p : PlaceFollows own s s2) where
  no_function : PlaceFollows own (record s { functions = s.functions ++ [] }) s2
  no_function = subst (λ fs. PlaceFollows own (record s { functions = fs }) s2) (sym (append-nil s.functions)) p

  no_functions : PlaceFollows own (record s { functions = s.functions ++ [] }) (record s2 { functions = s2.functions ++ [] })
  no_functions =
      subst (λ fs. PlaceFollows own (record s { functions = s.functions ++ [] }) (record s2 { functions = fs })) (sym (append-nil s2.functions)) no_function

  ref_removed : (r : ComponentTypeRef) → PlaceFollows (after_ref own r false) (record s { functions = s.functions ++ function_of r }) s2
  ref_removed (to.Func i) = function_removed own s s2 p i
  ref_removed r = no_function

  function_by : (t : ℕ) (f : Fate) (n : ℕ) → slice_get own.types.entries t ≡ Some (record { index = n; fate = f })
      → Perhaps (λ u. PlaceFollows (with_function own f) (record s { functions = s.functions ++ t ∷ [] }) (record s2 { functions = s2.functions ++ u ∷ [] }))
      (index_left (record { index = n; fate = f }))
  function_by t Removed n at = nothing tt
  function_by t f n at = gives n (function_left own s s2 p f tt t n at)

  function_stays : (t : ℕ) (e : Entry) → slice_get s.types t ≡ Some e
      → Perhaps (λ u. PlaceFollows (with_function own (entry_at own.types t).fate) (record s { functions = s.functions ++ t ∷ [] })
      (record s2 { functions = s2.functions ++ u ∷ [] })) (new_index own.types t)
  function_stays t e at =
      let (r, is) = get_other s.types own.types.entries t e p.same.count at in
      function_by t (entry_at own.types t).fate (entry_at own.types t).index (is ∙ ap (λ x. Some x) (sym (entry_there own.types t r is)))

  ref_left : (r : ComponentTypeRef) → FormedRef (scope s) r
      → Perhaps (λ x. PlaceFollows (after_ref own r true) (record s { functions = s.functions ++ function_of r })
      (record s2 { functions = s2.functions ++ function_of x })) (ref_edited own r)
  ref_left (to.Func i) h = mapped to.Func (λ j k. k) (function_stays i h.0 h.1)
  ref_left (to.Module i) h = mapped to.Module (λ j k. no_functions) (some_index (new_index own.core_types i))
  ref_left r h = mapped _ (λ j k. no_functions) (some_index (new_index own.types _))

  like_removed : (f : ℕ) → f < length s.functions → PlaceFollows (record own { functions = with_like own.functions f false })
      (record s { functions = s.functions ++ option_to_list (slice_get s.functions f) }) s2
  like_removed f h =
      let (t, at) = some_at s.functions f h in
      let (r, is) = get_other s.functions own.functions.entries f t p.functions.count at in
      rw (at, with_like, is) (function_removed own s s2 p t)

  like_by : (t : ℕ) (f : Fate) (n : ℕ) → Stays (OfType own.types) f n t s2.functions
      → Perhaps (λ g. (g < length s2.functions) × PlaceFollows (with_function own f) (record s { functions = s.functions ++ t ∷ [] })
      (record s2 { functions = s2.functions ++ option_to_list (slice_get s2.functions g) })) (index_left (record { index = n; fate = f }))
  like_by t Removed n h = nothing tt
  like_by t f n (u, there, of_type) = gives n (slice_get_within s2.functions n u there, rw there (function_left own s s2 p f tt t u of_type))

  like_left : (f : ℕ) → f < length s.functions
      → Perhaps (λ g. (g < length s2.functions) × PlaceFollows (record own { functions = with_like own.functions f true })
      (record s { functions = s.functions ++ option_to_list (slice_get s.functions f) })
      (record s2 { functions = s2.functions ++ option_to_list (slice_get s2.functions g) })) (new_index own.functions f)
  like_left f h =
      let (t, at) = some_at s.functions f h in
      let (r, is) = get_other s.functions own.functions.entries f t p.functions.count at in
      rw (at, new_index, entry_there own.functions f r is, with_like, is) (like_by t r.fate r.index (p.functions.found f t r at is))

pub imports_remain : Remaining ImportOk after_import import_edited edit_import
imports_remain = record {
  removed = λ w s s2 outer outer2 p q i h. ref_removed w.own s s2 p i.to;
  left = λ w s s2 outer outer2 p q i h. mapped (λ r. record i { to = r }) (λ r k. ((k.0.0, k.0.1 ∙ h.1), k.1))
      (both (formed_ref w.own (scope s) (scope s2) p.kinds i.to h.0) (ref_left w.own s s2 p i.to h.0));
}

pub exports_remain : Remaining ExportOk after_export export_edited edit_export
exports_remain = record {
  removed = λ w s s2 outer outer2 p q e h. like_removed w.own s s2 p e.func h;
  left = λ w s s2 outer outer2 p q e h. mapped (λ f. record e { func = f }) (λ f k. k) (like_left w.own s s2 p e.func h);
}
