-- The scripts of types are bytes.
use Rattle.std.proofs.Common.{◌≡◌, ℕ, ◌+◌, ◌-◌, ◌<◌, ◌≤◌, ◌^◌, ◌&&◌, Bool, true, nat_eq, List, [], ◌∷◌, ◌++◌, map, length, sym, subst, arith, Option, None}
use Rattle.std.proofs.Common.{Some, lit≤}
use Rattle.std.proofs.lemmas.Bool.Decides.{Decides-eqb}
use Rattle.std.proofs.lemmas.Option.{slice_get_within}
use Rattle.std.specs.List.{AllByRecursion}
use Rattle.std.specs.Option.{option_to_list}
use Rattle.smith_input.specs.Kebab.{Kebab}
use Rattle.smith_input.specs.Script.{script_among}
use Rattle.smith_input.proofs.Lists.{all_at, all_back, all_front}
use Rattle.smith_input.proofs.Offered.{offers_few}
use Rattle.smith_input.proofs.ScriptBytes.{Small, small_byte, small_few, small_found, small_if, small_join, small_more, small_new, small_none, small_pick}
use Rattle.smith_format.specs.declared.config.Config.{Config}
use Rattle.smith_format.specs.declared.types.ValType.{ValType}
use Rattle.smith_syntax.specs.Entries.{DefValType, primitive_type, record_type, variant_type, list_type, tuple_type, flags_type, enum_type, option_type}
use Rattle.smith_syntax.specs.Entries.{result_type, function, Field, Signature}
use Rattle.smith_syntax.specs.Flat.{flat_primitive}
use Rattle.smith_syntax.specs.Marked.{Marked, scope_in, scopes_in_marked}
use Rattle.smith_syntax.specs.Scope.{Scope, in_scope}
use Rattle.smith_syntax.specs.Usable.{OfferedRef, OfferedValue, is_value, value_places}
use Rattle.smith_syntax.specs.WellFormed.{FormedRef}
use Rattle.smith_syntax.specs.contracts.types.PrimitiveValTypePartialEq.TheImpl.{ghosts as prims}
use Rattle.smith_syntax.specs.declared.deftype.ComponentTypeRef.{ComponentTypeRef}
use Rattle.smith_syntax.specs.declared.types.ComponentValType.{ComponentValType}
use Rattle.smith_syntax.specs.declared.types.ComponentValType.TheVariants.{Primitive, Indexed}
use Rattle.smith_syntax.specs.declared.types.PrimitiveValType.{PrimitiveValType}
use Rattle.smith_types.proofs.CoreScriptBytes.{small_place, small_said}
use Rattle.smith_input.proofs.Loops.{along_all}
use Rattle.smith_tree.specs.TypeOffers.{aliases_of, declaration_items, declaration_offers, defined_kinds, has_reference, is_occupied, lifted, primitives}
use Rattle.smith_tree.specs.TypeOffers.{ref_kinds, ref_places, type_kinds}
use Rattle.smith_types.specs.Sayable.{Fit}
use Rattle.smith_tree.specs.TypeScript.{index_in, kind_in, script_alias, script_declares, script_defined, script_entry, script_extern, script_kind}
use Rattle.smith_tree.specs.TypeScript.{script_label, script_maybe, script_members, script_primitive, script_ref, script_signature, script_lifted}
use Rattle.smith_tree.specs.TypeScript.{script_params, script_result, script_scalar, script_type_kind, script_val}
use Rattle.smith_tree.specs.contracts.choices.TypeKindPartialEq.TheImpl.{ghosts as types}
use Rattle.smith_tree.specs.contracts.choices.DeclarationItemPartialEq.TheImpl.{ghosts as items}
use Rattle.smith_tree.specs.contracts.choices.DefinedKindPartialEq.TheImpl.{ghosts as kinds}
use Rattle.smith_tree.specs.contracts.choices.RefKindPartialEq.TheImpl.{ghosts as refs}
use Rattle.smith_tree.specs.declared.choices.TypeKind.{TypeKind}
use Rattle.smith_tree.specs.declared.choices.DeclarationItem.{DeclarationItem}
use Rattle.smith_tree.specs.declared.choices.DefinedKind.{DefinedKind}
use Rattle.smith_tree.specs.declared.choices.DefinedKind.TheVariants as kind
use Rattle.smith_tree.specs.declared.totals.RefTotals.{RefTotals}
use Rattle.smith_types.proofs.LiftingRead.{lifted_few}
use Rattle.smith_types.proofs.ReferencesRead.{IsFew, kinds_few, places_few, ref_index, scope_there}
use Rattle.smith_types.proofs.Judged.{IsDefined, IsMaybe, IsType, IsValue, cases_are, fields_are, one_are, values_are}
use Rattle.smith_types.proofs.MarkedPlaces.{marked_found}
use Rattle.smith_scope.proofs.Offered.{length-marked_places}
use Rattle.smith_tree.proofs.Aliases.{length-aliases}
use Rattle.std.proofs.lemmas.Bool.{and_from, lt-ltb}

-- Types of values and of functions.

small_label : (config : Config) (short : config.max_name_length < 2 ^ 64) (count : ℕ) (n : List ℕ) → Kebab n → Small (script_label config count n)
small_label config short count n kebab = small_new config.max_name_length count n (omega (arith, short)) kebab

-- members whose scripts are bytes however many precede them
small_members : {A : Type 0} (f : ℕ → A → List ℕ) (P : A → Type 0) → ((count : ℕ) (x : A) → P x → Small (f count x)) → (min max : ℕ) (xs : List A)
    → AllByRecursion P xs → Small (script_members f min max xs)
small_members {A} f P one min max xs all =
    let next : ℕ → A → ℕ = λ count x. count + 1 in
    small_said f next (λ count. P) one min max 0 0 xs (along_all P next 0 xs all)

-- what follows names
small_named : (config : Config) (short : config.max_name_length < 2 ^ 64) {B : Type 0} (f : B → List ℕ) (P : B → Type 0) → ((x : B) → P x → Small (f x))
    → (min max : ℕ) (xs : List (List ℕ × B))
    → AllByRecursion Kebab (map (λ x. x.0) xs) → AllByRecursion (λ x. P x.1) xs
    → Small (script_members (λ count x. script_label config count x.0 ++ f x.1) min max xs)
small_named config short {B} f P one min max xs kebab formed =
    small_members (λ count x. script_label config count x.0 ++ f x.1) (λ x. Kebab x.0 × P x.1)
    (λ count x h. small_join (small_label config short count x.0 h.0) (one x.1 h.1)) min max xs (both xs kebab formed)
  where
    both : (xs : List (List ℕ × B)) → AllByRecursion Kebab (map (λ x. x.0) xs) → AllByRecursion (λ x. P x.1) xs → AllByRecursion (λ x. Kebab x.0 × P x.1) xs
    both [] kebab formed = tt
    both (x ∷ xs) kebab formed = ((kebab.0, formed.0), both xs kebab.1 formed.1)

small_primitive : (p : PrimitiveValType) → Small (script_primitive p)
small_primitive p = small_few prims.eq primitives p (lit≤ tt)

small_kind : (k : DefinedKind) → Small (script_kind k)
small_kind k = small_few kinds.eq defined_kinds k (lit≤ tt)

pub small_type_kind : (k : TypeKind) → Small (script_type_kind k)
small_type_kind k = small_few types.eq type_kinds k (lit≤ tt)

module _ (config : Config) (short : config.max_name_length < 2 ^ 64) (own : Marked) (few : length own.types ≤ 2 ^ 64) where
  small_val : (v : ComponentValType) → IsValue own v → Small (script_val own v)
  small_val (Primitive p) f =
      small_join (small_if (nat_eq (length (value_places own)) 0) small_none (small_byte 2 0 (omega arith) (omega arith))) (small_primitive p)
  small_val (Indexed i) ((e, at, is), small) =
      let found = marked_found is_value own.types own.marks i e at (and_from _ _ is small) in
      small_join (small_byte 2 1 (omega arith) (omega arith)) (small_found nat_eq Decides-eqb (value_places own) found.0 i
      (omega (arith, few, length-marked_places is_value 0 own.types own.marks)) found.1)

  small_maybe : (v : Option ComponentValType) → IsMaybe own v → Small (script_maybe own v)
  small_maybe None f = small_more 0 (omega arith) small_none
  small_maybe (Some v) f = small_more 1 (omega arith) (small_val v (f.0, f.1.0))

  small_vals : (min max : ℕ) (vs : List ComponentValType) → AllByRecursion (IsValue own) vs → Small (script_members (λ count v. script_val own v) min max vs)
  small_vals min max vs f = small_members (λ count v. script_val own v) (IsValue own) (λ count v h. small_val v h) min max vs f

  pub small_defined : (t : DefValType) → IsDefined own t → Small (script_defined config own t)
  small_defined (primitive_type p) f = small_join (small_kind kind.Primitive) (small_primitive p)
  small_defined (record_type fs) f = small_join (small_kind kind.Record)
      (small_named config short (script_val own) (IsValue own) small_val 1 100 fs f.0.0.0 (fields_are own fs f.0.1 f.1))
  small_defined (variant_type cs) f = small_join (small_kind kind.Variant)
      (small_named config short (script_maybe own) (IsMaybe own) small_maybe 1 100 cs f.0.0.0 (cases_are own cs f.0.1 f.1))
  small_defined (list_type v) f = small_join (small_kind kind.List) (small_val v (f.0, f.1.0))
  small_defined (tuple_type vs) f = small_join (small_kind kind.Tuple) (small_vals 1 100 vs (values_are own vs f.0.0 f.1))
  small_defined (flags_type ns) f = small_join (small_kind kind.Flags) (small_members (script_label config) Kebab (small_label config short) 1 32 ns f.0.0.0)
  small_defined (enum_type ns) f = small_join (small_kind kind.Enum) (small_members (script_label config) Kebab (small_label config short) 1 100 ns f.0.0.0)
  small_defined (option_type v) f = small_join (small_kind kind.Option) (small_val v (f.0, f.1.0))
  small_defined (result_type ok err) f =
      let here : IsMaybe own ok = (f.0.0, all_front (OfferedValue own) (option_to_list ok) (option_to_list err) f.1) in
      let there : IsMaybe own err = (f.0.1, all_back (OfferedValue own) (option_to_list ok) (option_to_list err) f.1) in
      small_join (small_kind kind.Result) (small_join (small_maybe ok here) (small_maybe err there))

  pub small_signature : (outer : List Marked) (s : Signature) → IsType (function s) own outer → Small (script_signature config own s)
  small_signature outer s f =
      let params = fields_are own s.params f.0.1 (all_front (OfferedValue own) (map (λ p. p.1) s.params) (option_to_list s.result) f.1) in
      let result = one_are own s.result (f.0.3, all_back (OfferedValue own) (map (λ p. p.1) s.params) (option_to_list s.result) f.1) in
      small_join (small_named config short (script_val own) (IsValue own) small_val 0 16 s.params f.0.0.0 params)
      (small_vals 0 1 (option_to_list s.result) result)

-- The signature of a lift.

small_scalar : (v : ComponentValType) → Small (script_scalar v)
small_scalar (Primitive p) = by_flat (flat_primitive p)
  where
    by_flat : (o : Option ValType) → Small (elim o [ None ↦ [] | Some v ↦ script_among prims.eq (lifted v) p ])
    by_flat None = small_none
    by_flat (Some v) = let few : length (lifted v) ≤ 8 = lifted_few v in small_few prims.eq (lifted v) p (omega (arith, few))
small_scalar (Indexed i) = small_none

small_params : (config : Config) (short : config.max_name_length < 2 ^ 64) (count : ℕ) (fs : List Field) → AllByRecursion Kebab (map (λ p. p.0) fs)
    → Small (script_params config count fs)
small_params config short count [] kebab = small_none
small_params config short count (f ∷ fs) kebab =
    small_join (small_label config short count f.0 kebab.0) (small_join (small_scalar f.1) (small_params config short (count + 1) fs kebab.1))

small_result : (o : Option ComponentValType) → Small (script_result o)
small_result None = small_none
small_result (Some v) = small_scalar v

pub small_lifted : (config : Config) (short : config.max_name_length < 2 ^ 64) (s : Signature) → AllByRecursion Kebab (map (λ p. p.0) s.params)
    → Small (script_lifted config s)
small_lifted config short s kebab = small_join (small_params config short 0 s.params kebab) (small_result s.result)

-- References, names and outer aliases.

pub small_ref : (config : Config) (own : Marked) (totals : RefTotals) (for_import for_type_def : Bool) → IsFew own → (r : ComponentTypeRef)
    → FormedRef (scope_in own) r
    → OfferedRef own for_import r → Small (script_ref config own totals for_import for_type_def r)
small_ref config own totals for_import for_type_def few r formed offered =
    let count = kinds_few config own totals for_import for_type_def in
    let at = ref_index own for_import r formed offered in
    small_join (small_few refs.eq (ref_kinds config own totals for_import for_type_def) (kind_in r) (omega (arith, count)))
    (small_found nat_eq Decides-eqb (ref_places own for_import (kind_in r)) at.0 (index_in r) (omega (arith, few, places_few own for_import (kind_in r))) at.1)

pub small_extern : (config : Config) (short : config.max_name_length < 2 ^ 64) (count : ℕ) (name : List ℕ) → Kebab name
    → Small (script_extern config count name)
small_extern config short count name kebab = small_join (small_label config short count name kebab) (small_more 0 (omega arith) small_none)

-- what an outer alias names, by where it is among what the scope holds
pub small_alias : {A : Type 0} (of : Scope → List A) (place : Marked → ℕ) (scopes : List Marked) → Fit scopes → (count i : ℕ) (x : A)
    → in_scope of (scopes_in_marked scopes) count i ≡ Some x → ((s : Marked) → i < length (of (scope_in s)) → place s < length s.types + length s.core_types)
    → Small (script_alias scopes count place)
small_alias of place scopes fit count i x h within =
    let at = scope_there of scopes count i x h in
    let s : Marked = at.0 in
    let below : place s < length s.types + length s.core_types = within s (slice_get_within (of (scope_in s)) i x at.2) in
    let few : IsFew s = all_at IsFew scopes count s fit.each at.1 in
    let some : is_occupied s ≡ true = lt-ltb 0 (length s.types + length s.core_types) (omega (arith, below)) in
    let many : length scopes ≤ 2 ^ 64 = fit.many in
    small_join (small_place is_occupied scopes count s many at.1 some)
    (subst (λ o. Small (script_entry count place o)) (sym at.1)
    (small_pick (length (aliases_of count s)) (place s) (omega (arith, few, length-aliases count s)) (omega (arith, below, length-aliases count s))))

-- What is declared.

pub small_declares : (config : Config) (importing : Bool) (own : Marked) (outer : List Marked) (i : DeclarationItem)
    → Small (script_declares config importing own outer i)
small_declares config importing own outer i =
    let few = offers_few (declaration_offers config outer own) in
    small_join (small_if (importing && has_reference own) (small_byte 4 1 (omega arith) (omega arith)) small_none)
    (small_few items.eq (declaration_items config outer own) i (omega (arith, few)))
