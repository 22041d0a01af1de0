-- What the scripts of references, names and outer aliases say is read as them.
use Rattle.std.proofs.Common.{◌≡◌, ℕ, ◌+◌, ◌<◌, ◌≤◌, ◌^◌, ◌&&◌, ◌||◌, Bool, true, false, List, [], ◌∷◌, ◌++◌, length, refl, sym, ap, ◌∙◌, subst}
use Rattle.std.proofs.Common.{arith, append_assoc, nat_eq, nat_lt, None, Some, Decides}
use Rattle.std.proofs.lemmas.Bool.Decides.{Decides-eqb}
use Rattle.std.proofs.lemmas.List.{length-map}
use Rattle.std.proofs.lemmas.Option.{slice_get_within}
use Rattle.std.specs.Prelude.{Option, slice_get, if◌then◌else◌}
use denote.Enum.Bare.{same_true, true_same}
use Rattle.smith_input.specs.Choices.{ReadsAmong}
use Rattle.smith_input.specs.Kebab.{Kebab}
use Rattle.smith_input.specs.NameScript.{IsReachable}
use Rattle.smith_input.specs.Names.{ReadsNew}
use Rattle.smith_input.specs.Script.{script_among, pick}
use Rattle.smith_input.specs.Offers.{offers_of}
use Rattle.smith_input.proofs.Choices.{among_none, among_read, among_same}
use Rattle.smith_input.proofs.NameScript.{new_script_read}
use Rattle.smith_input.proofs.Offered.{offers_few, offers_found}
use Rattle.smith_input.proofs.Picks.{reads-pick}
use Rattle.smith_input.proofs.Reading.{flips_zero}
use Rattle.smith_format.specs.declared.config.Config.{Config}
use Rattle.smith_syntax.specs.Entries.{Entry, CoreEntry, FullDecl, type_alias, core_type_alias, keeps_type, keeps_core_type}
use Rattle.smith_syntax.specs.Marked.{Marked, scope_in, scopes_in_marked}
use Rattle.smith_syntax.specs.Scope.{Scope, is_core_module, in_scope, type_named, core_type_named}
use Rattle.smith_syntax.specs.Usable.{OfferedRef, is_equatable, is_exportable, is_importable, is_small_component, is_small_instance}
use Rattle.smith_syntax.specs.WellFormed.{FormedRef, names}
use Rattle.smith_syntax.specs.declared.deftype.ComponentTypeRef.{ComponentTypeRef}
use Rattle.smith_syntax.specs.declared.deftype.ComponentTypeRef.TheVariants as to
use Rattle.smith_scope.proofs.Places.{get_mapped, place_found}
use Rattle.smith_scope.proofs.Offered.{length-marked_places}
use Rattle.smith_scope.proofs.Places.{length-places}
use Rattle.smith_tree.proofs.Aliases.{length-aliases}
use Rattle.smith_types.specs.Declarations.{NamedExtern, ReadsNamedExtern, no_url, ReadsAlias, NoImportDecl, in_instance, nothing_there, not_asked}
use Rattle.smith_tree.specs.TypeOffers.{IsAllowed, has_reference, is_occupied, occupied, aliases_of, declaration_offers, declaration_items}
use Rattle.smith_tree.specs.TypeOffers.{ref_offers, ref_kinds, ref_places, has_export, has_place, has_room, kinds_offered, allows_one}
use Rattle.smith_types.specs.References.{ref_to, ReadsRef}
use Rattle.smith_types.specs.Sayable.{Fit}
use Rattle.smith_types.proofs.MarkedPlaces.{marked_found, three_from}
use Rattle.smith_types.proofs.ReadsDeclarations.{alias_core_type_at, alias_type_at}
use Rattle.smith_tree.specs.TypeScript.{kind_in, index_in, script_ref, script_label, script_extern, script_entry, script_alias, script_no_import}
use Rattle.smith_tree.specs.TypeScript.{script_declaration_item}
use Rattle.smith_tree.specs.contracts.choices.DeclarationItem.{the_type as item_type}
use Rattle.smith_tree.specs.contracts.choices.DeclarationItemPartialEq.TheImpl.{ghosts as items}
use Rattle.smith_tree.specs.contracts.choices.RefKind.{the_type as ref_kind_type}
use Rattle.smith_tree.specs.contracts.choices.RefKindPartialEq.TheImpl.{ghosts as refs}
use Rattle.smith_tree.specs.declared.choices.DeclarationItem.{DeclarationItem}
use Rattle.smith_tree.specs.declared.choices.RefKind.{RefKind}
use Rattle.smith_tree.specs.declared.choices.RefKind.TheVariants as kind
use Rattle.smith_tree.specs.declared.totals.RefTotals.{RefTotals}
use Rattle.std.proofs.lemmas.Bool.{and_from, or_left, or_right, lt-ltb}
use Rattle.smith_input.proofs.Lists.{all_at, some_there}
use Rattle.std.proofs.Math.Bool.{and-false}

pub ref_kind_Decides : (a b : RefKind) → Decides (refs.eq a b) (a ≡ b)
ref_kind_Decides a b = (same_true ref_kind_type tt a b, true_same ref_kind_type a b)

item_Decides : (a b : DeclarationItem) → Decides (items.eq a b) (a ≡ b)
item_Decides a b = (same_true item_type tt a b, true_same item_type a b)

-- references

module _ (own : Marked) where
  pub ref_index : (for_import : Bool) (r : ComponentTypeRef) → FormedRef (scope_in own) r → OfferedRef own for_import r
      → (k : ℕ) × (slice_get (ref_places own for_import (kind_in r)) k ≡ Some (index_in r))
  ref_index for_import (to.Module i) (e, at, is) o = place_found is_core_module own.core_types i e at is
  ref_index for_import (to.TypeEq i) (e, at) (small, named) = marked_found is_equatable own.types own.marks i e at (and_from _ _ small named)
  ref_index true (to.Func i) (e, at, is) (small, named) = marked_found is_importable own.types own.marks i e at (three_from _ _ _ is small named)
  ref_index false (to.Func i) (e, at, is) (small, named) = marked_found is_exportable own.types own.marks i e at (three_from _ _ _ is small named)
  ref_index for_import (to.Component i) (e, at, is) o = marked_found is_small_component own.types own.marks i e at (and_from _ _ is o)
  ref_index for_import (to.Instance i) (e, at, is) o = marked_found is_small_instance own.types own.marks i e at (and_from _ _ is o)

  pub places_few : (for_import : Bool) (k : RefKind) → length (ref_places own for_import k) ≤ length own.types + length own.core_types
  places_few for_import kind.Module = omega (arith, length-places is_core_module 0 own.core_types)
  places_few for_import kind.TypeEq = omega (arith, length-marked_places is_equatable 0 own.types own.marks)
  places_few true kind.Func = omega (arith, length-marked_places is_importable 0 own.types own.marks)
  places_few false kind.Func = omega (arith, length-marked_places is_exportable 0 own.types own.marks)
  places_few for_import kind.Component = omega (arith, length-marked_places is_small_component 0 own.types own.marks)
  places_few for_import kind.Instance = omega (arith, length-marked_places is_small_instance 0 own.types own.marks)

  pub ref_there : (r : ComponentTypeRef) → FormedRef (scope_in own) r → has_reference own ≡ true
  ref_there (to.Module i) (e, at, is) =
      let found = place_found is_core_module own.core_types i e at is in
      or_right _ _ (some_there (ref_places own true kind.Module) found.0 i found.1)
  ref_there (to.TypeEq i) (e, at) = or_left _ _ (some_there own.types i e at)
  ref_there (to.Func i) (e, at, is) = or_left _ _ (some_there own.types i e at)
  ref_there (to.Component i) (e, at, is) = or_left _ _ (some_there own.types i e at)
  ref_there (to.Instance i) (e, at, is) = or_left _ _ (some_there own.types i e at)

  place_there : (for_import : Bool) (r : ComponentTypeRef) → FormedRef (scope_in own) r → OfferedRef own for_import r
      → has_place own for_import (kind_in r) ≡ true
  place_there for_import r f o =
      let at = ref_index for_import r f o in
      some_there (ref_places own for_import (kind_in r)) at.0 (index_in r) at.1

  module_there : has_place own false kind.Module ≡ true → has_export own ≡ true
  module_there h = or_left _ _ (or_left _ (has_place own false kind.Component) (or_left _ (has_place own false kind.TypeEq) h))

  equal_there : has_place own false kind.TypeEq ≡ true → has_export own ≡ true
  equal_there h = or_left _ _ (or_left _ (has_place own false kind.Component) (or_right (has_place own false kind.Module) _ h))

  component_there : has_place own false kind.Component ≡ true → has_export own ≡ true
  component_there h = or_left _ _ (or_right (has_place own false kind.Module || has_place own false kind.TypeEq) _ h)

  instance_there : has_place own false kind.Instance ≡ true → has_export own ≡ true
  instance_there h = or_right (has_place own false kind.Module || has_place own false kind.TypeEq || has_place own false kind.Component) _ h

  -- An export is offered if one is allowed: what may be exported as a function may be equal to a type.
  pub export_there : (r : ComponentTypeRef) → FormedRef (scope_in own) r → OfferedRef own false r → has_export own ≡ true
  export_there (to.Module i) f o = module_there (place_there false (to.Module i) f o)
  export_there (to.TypeEq i) f o = equal_there (place_there false (to.TypeEq i) f o)
  export_there (to.Func i) (e, at, is) o = equal_there (place_there false (to.TypeEq i) (e, at) o)
  export_there (to.Component i) f o = component_there (place_there false (to.Component i) f o)
  export_there (to.Instance i) f o = instance_there (place_there false (to.Instance i) f o)

ref_is : (r : ComponentTypeRef) → r ≡ ref_to (kind_in r) (index_in r)
ref_is (to.Module i) = refl
ref_is (to.TypeEq i) = refl
ref_is (to.Func i) = refl
ref_is (to.Component i) = refl
ref_is (to.Instance i) = refl

open_few : {A : Type 0} (room : Bool) (xs : List A) → length (if room then xs else []) ≤ length xs
open_few true xs = omega arith
open_few false xs = omega arith

-- the kinds that are offered, if there is room
open_kinds : (config : Config) (own : Marked) (totals : RefTotals) (for_import for_type_def : Bool) → has_room own for_type_def ≡ true
    → ref_kinds config own totals for_import for_type_def ≡ kinds_offered config own totals for_import for_type_def
open_kinds config own totals for_import for_type_def room = ap (λ b. if b then kinds_offered config own totals for_import for_type_def else []) room

module _ (config : Config) (own : Marked) (totals : RefTotals) (for_import for_type_def : Bool) where
  pub kinds_few : length (ref_kinds config own totals for_import for_type_def) ≤ 5
  kinds_few =
      let few = offers_few (ref_offers config own totals for_import for_type_def) in
      omega (arith, few, open_few (has_room own for_type_def) (kinds_offered config own totals for_import for_type_def))

  kind_offered : (r : ComponentTypeRef) → has_place own for_import (kind_in r) ≡ true → IsAllowed config own totals for_import for_type_def r
      → (j : ℕ) × (slice_get (kinds_offered config own totals for_import for_type_def) j ≡ Some (kind_in r))
  kind_offered (to.Module i) t m = offers_found (ref_offers config own totals for_import for_type_def) 0 _ kind.Module refl (and_from _ _ t m)
  kind_offered (to.TypeEq i) t m = offers_found (ref_offers config own totals for_import for_type_def) 1 _ kind.TypeEq refl (and_from _ _ t m)
  kind_offered (to.Func i) t m = offers_found (ref_offers config own totals for_import for_type_def) 2 _ kind.Func refl (and_from _ _ t m)
  kind_offered (to.Component i) t m = offers_found (ref_offers config own totals for_import for_type_def) 3 _ kind.Component refl (and_from _ _ t m)
  kind_offered (to.Instance i) t m = offers_found (ref_offers config own totals for_import for_type_def) 4 _ kind.Instance refl (and_from _ _ t m)

  -- the choice of the kind
  kind_read : (r : ComponentTypeRef) (rest : List ℕ) → FormedRef (scope_in own) r → OfferedRef own for_import r → has_room own for_type_def ≡ true
      → IsAllowed config own totals for_import for_type_def r
      → ReadsAmong (ref_kinds config own totals for_import for_type_def)
      (script_among refs.eq (ref_kinds config own totals for_import for_type_def) (kind_in r) ++ rest) (kind_in r) rest
  kind_read r rest formed offered room allowed =
      let at = kind_offered r (place_there own for_import r formed offered) allowed in
      let opened = open_kinds config own totals for_import for_type_def room in
      among_read refs.eq ref_kind_Decides (ref_kinds config own totals for_import for_type_def) (kind_in r) at.0 rest (omega (arith, kinds_few))
      (ap (λ ks. slice_get ks at.0) opened ∙ at.1)

  pub ref_read : length own.types + length own.core_types ≤ 2 ^ 64 → (r : ComponentTypeRef) (rest : List ℕ) → FormedRef (scope_in own) r
      → OfferedRef own for_import r → has_room own for_type_def ≡ true → IsAllowed config own totals for_import for_type_def r
      → ReadsRef config own totals for_import for_type_def (script_ref config own totals for_import for_type_def r ++ rest) r rest
  ref_read few r rest formed offered room allowed =
      let at = ref_index own for_import r formed offered in
      let choice : List ℕ = script_among refs.eq (ref_kinds config own totals for_import for_type_def) (kind_in r) in
      let said : List ℕ = script_among nat_eq (ref_places own for_import (kind_in r)) (index_in r) in
      subst (λ z. ReadsRef config own totals for_import for_type_def z r rest) (sym (append_assoc choice said rest)) (record {
        kind = kind_in r;
        mid = said ++ rest;
        index = index_in r;
        choice = kind_read r (said ++ rest) formed offered room allowed;
        names = among_read nat_eq Decides-eqb (ref_places own for_import (kind_in r)) (index_in r) at.0 rest
            (omega (arith, few, places_few own for_import (kind_in r))) at.1;
        is = ref_is r;
      })

  -- What a script says is read, and nothing else.
  pub ref_scripted : (t r : ComponentTypeRef) (bytes left rest : List ℕ) → FormedRef (scope_in own) r → OfferedRef own for_import r
      → has_room own for_type_def ≡ true → IsAllowed config own totals for_import for_type_def r
      → bytes ≡ script_ref config own totals for_import for_type_def r ++ rest
      → (h : ReadsRef config own totals for_import for_type_def bytes t left) → length (ref_places own for_import h.kind) ≤ 2 ^ 64 → (t ≡ r) × (left ≡ rest)
  ref_scripted t r bytes left rest formed offered room allowed begins h few =
      let choice : List ℕ = script_among refs.eq (ref_kinds config own totals for_import for_type_def) (kind_in r) in
      let said : List ℕ = script_among nat_eq (ref_places own for_import (kind_in r)) (index_in r) in
      let C : List ℕ → Type 0 = λ z. ReadsAmong (ref_kinds config own totals for_import for_type_def) z h.kind h.mid in
      let same = among_same (subst C (begins ∙ append_assoc choice said rest) h.choice) (kind_read r (said ++ rest) formed offered room allowed) in
      let at = ref_index own for_import r formed offered in
      let N : RefKind → Type 0 = λ z. length (ref_places own for_import z) ≤ 2 ^ 64 in
      let K : RefKind → Type 0 = λ z. ReadsAmong (ref_places own for_import z) h.mid h.index left in
      let M : List ℕ → Type 0 = λ z. ReadsAmong (ref_places own for_import (kind_in r)) z h.index left in
      let d = among_same (subst M same.1 (subst K same.0 h.names))
      (among_read nat_eq Decides-eqb (ref_places own for_import (kind_in r)) (index_in r) at.0 rest (subst N same.0 few) at.1) in
      (h.is ∙ ((λ j. ref_to (same.0 j) (d.0 j)) ∙ sym (ref_is r)), d.1)

  pub ref_not_none : (r : ComponentTypeRef) → FormedRef (scope_in own) r → OfferedRef own for_import r → has_room own for_type_def ≡ true
      → IsAllowed config own totals for_import for_type_def r → ref_kinds config own totals for_import for_type_def ≡ [] → ⊥
  ref_not_none r formed offered room allowed none = among_none none (kind_read r [] formed offered room allowed)

-- An import of a function if it can be of nothing else: its kind is not a choice.

none_there : (xs : List ℕ) (b : Bool) → xs ≡ [] → (nat_lt 0 (length xs) && b) ≡ false
none_there xs b e = ap (λ ys. nat_lt 0 (length ys) && b) e

pub function_chosen : (config : Config) (own : Marked) (totals : RefTotals) (i : ℕ) → ref_places own true kind.Module ≡ []
    → ref_places own true kind.Component ≡ [] → ref_places own true kind.Instance ≡ []
    → FormedRef (scope_in own) (to.Func i) → OfferedRef own true (to.Func i) → has_room own false ≡ true → IsAllowed config own totals true false (to.Func i)
    → script_ref config own totals true false (to.Func i) ≡ script_among nat_eq (ref_places own true kind.Func) i
unfolding pick
function_chosen config own totals i modules components instances formed offered room allowed =
    let a = none_there (ref_places own true kind.Module) _ modules in
    let b = and-false (has_place own true kind.TypeEq) in
    let c = and_from _ _ (place_there own true (to.Func i) formed offered) allowed in
    let d = none_there (ref_places own true kind.Component) _ components in
    let e = none_there (ref_places own true kind.Instance) _ instances in
    let one : kinds_offered config own totals true false ≡ kind.Func ∷ [] =
    λ j. offers_of ((a j, kind.Module) ∷ (b j, kind.TypeEq) ∷ (c j, kind.Func) ∷ (d j, kind.Component) ∷ (e j, kind.Instance) ∷ []) in
    ap (λ ks. script_among refs.eq ks kind.Func ++ script_among nat_eq (ref_places own true kind.Func) i)
    (open_kinds config own totals true false room ∙ one)

-- names

pub extern_read : {config : Config} (short : config.max_name_length < 2 ^ 64) (so_far : List NamedExtern) (name rest : List ℕ) → Kebab name
    → IsReachable config.max_name_length (names so_far) name
    → ReadsNamedExtern config so_far (script_extern config (length so_far) name ++ rest) (name, None) rest
extern_read {config} short so_far name rest k made =
    let P : List ℕ → Type 0 = λ z. ReadsNamedExtern config so_far z (name, None) rest in
    let C : ℕ → Type 0 = λ count. ReadsNew config.max_name_length (names so_far) (script_label config count name ++ 0 ∷ rest) name (0 ∷ rest) in
    let said = subst C (length-map so_far (λ x. x.0)) (new_script_read config.max_name_length (names so_far) name (0 ∷ rest) (omega (arith, short)) k made) in
    subst P (sym (append_assoc (script_label config (length so_far) name) (0 ∷ []) rest))
    (record { mid = 0 ∷ rest; name = said; url = no_url (flips_zero rest) })

-- no import

module _ (config : Config) (own : Marked) where
  no_import_by : (rest : List ℕ) (b : Bool) → has_reference own ≡ b → NoImportDecl config true own ((if b then pick 4 1 else []) ++ rest) rest
  no_import_by rest true e = not_asked refl e (reads-pick 4 1 rest (omega arith) (omega arith)) (omega arith)
  no_import_by rest false e = nothing_there refl e

  pub no_import_read : (importing : Bool) (rest : List ℕ) → NoImportDecl config importing own (script_no_import importing own ++ rest) rest
  no_import_read true rest = no_import_by rest (has_reference own) refl
  no_import_read false rest = in_instance refl

-- what is declared

pub item_read : (config : Config) (outer : List Marked) (own : Marked) (i : DeclarationItem) (k : ℕ) (b : Bool) (rest : List ℕ)
    → slice_get (declaration_offers config outer own) k ≡ Some (b, i) → b ≡ true
    → ReadsAmong (declaration_items config outer own) (script_declaration_item config outer own i ++ rest) i rest
item_read config outer own i k b rest named offered =
    let at = offers_found (declaration_offers config outer own) k b i named offered in
    among_read items.eq item_Decides (declaration_items config outer own) i at.0 rest (let few = offers_few (declaration_offers config outer own) in
    omega (arith, few)) at.1

-- outer aliases

in_split : {A : Type 0} (of : Scope → List A) (o : Option Scope) (i : ℕ) (x : A) → elim o [ None ↦ None | Some s ↦ slice_get (of s) i ] ≡ Some x
    → (s : Scope) × (o ≡ Some s) × (slice_get (of s) i ≡ Some x)
in_split of None i x h = absurd (cc)
in_split of (Some s) i x h = (s, refl, h)

-- the scope that an outer alias names
pub scope_there : {A : Type 0} (of : Scope → List A) (scopes : List Marked) (count i : ℕ) (x : A) → in_scope of (scopes_in_marked scopes) count i ≡ Some x
    → (s : Marked) × (slice_get scopes count ≡ Some s) × (slice_get (of (scope_in s)) i ≡ Some x)
scope_there of scopes count i x h =
    let at = in_split of (slice_get (scopes_in_marked scopes) count) i x h in
    let there = get_mapped scope_in scopes count at.0 at.1 in
    (there.0, there.1, subst (λ s. slice_get (of s) i ≡ Some x) there.2 at.2)

-- how many are in a scope
abbrev pub IsFew : Marked → Type 0
IsFew s = length s.types + length s.core_types ≤ 2 ^ 64

module _ (scopes : List Marked) (fit : Fit scopes) where
  -- what is at a place of a scope
  alias_read : (count : ℕ) (place : Marked → ℕ) (s : Marked) (d : FullDecl) (rest : List ℕ) → slice_get scopes count ≡ Some s
      → slice_get (aliases_of count s) (place s) ≡ Some d → ReadsAlias scopes (script_alias scopes count place ++ rest) d rest
  alias_read count place s d rest stands named =
      let os : List ℕ = occupied scopes in
      let within : place s < length (aliases_of count s) = slice_get_within (aliases_of count s) (place s) d named in
      let some : nat_lt 0 (length s.types + length s.core_types) ≡ true =
      lt-ltb 0 (length s.types + length s.core_types) (omega (arith, within, length-aliases count s)) in
      let at = place_found is_occupied scopes count s stands some in
      let choice : List ℕ = script_among nat_eq os count in
      let said : List ℕ = pick (length (aliases_of count s)) (place s) in
      let few : IsFew s = all_at IsFew scopes count s fit.each stands in
      let made : ReadsAlias scopes (choice ++ (said ++ rest)) d rest = record {
        count = count;
        mid = said ++ rest;
        scope = s;
        choice = among_read nat_eq Decides-eqb os count at.0 (said ++ rest) (let z : length scopes ≤ 2 ^ 64 = fit.many in
            omega (arith, z, length-places is_occupied 0 scopes)) at.1;
        stands = stands;
        names = record {
          place = place s;
          reads = reads-pick (length (aliases_of count s)) (place s) rest (omega (arith, few, length-aliases count s)) within;
          named = named;
        };
      } in
      let P : List ℕ → Type 0 = λ z. ReadsAlias scopes z d rest in
      let Q : Option Marked → Type 0 = λ o. ReadsAlias scopes ((choice ++ script_entry count place o) ++ rest) d rest in
      subst Q (sym stands) (subst P (sym (append_assoc choice said rest)) made)

  pub type_alias_read : (count i : ℕ) (e : Entry) (rest : List ℕ) → type_named (scopes_in_marked scopes) count i ≡ Some e
      → ReadsAlias scopes (script_alias scopes count (λ s. i) ++ rest) (type_alias count i (keeps_type e)) rest
  type_alias_read count i e rest h =
      let at = scope_there (λ s. s.types) scopes count i e h in
      alias_read count (λ s. i) at.0 (type_alias count i (keeps_type e)) rest at.1 (alias_type_at count at.0 i e at.2)

  pub core_alias_read : (count i : ℕ) (e : CoreEntry) (rest : List ℕ) → core_type_named (scopes_in_marked scopes) count i ≡ Some e
      → ReadsAlias scopes (script_alias scopes count (λ s. length s.types + i) ++ rest) (core_type_alias count i (keeps_core_type e)) rest
  core_alias_read count i e rest h =
      let at = scope_there (λ s. s.core_types) scopes count i e h in
      alias_read count (λ s. length s.types + i) at.0 (core_type_alias count i (keeps_core_type e)) rest at.1 (alias_core_type_at count at.0 i e at.2)

  -- what an outer alias names is in a scope
  pub alias_there : {A : Type 0} (of : Scope → List A) → ((s : Scope) → length (of s) ≤ length s.types + length s.core_types) → (count i : ℕ) (x : A)
      → in_scope of (scopes_in_marked scopes) count i ≡ Some x → nat_lt 0 (length (occupied scopes)) ≡ true
  alias_there of within count i x h =
      let at = scope_there of scopes count i x h in
      let some : nat_lt 0 (length at.0.types + length at.0.core_types) ≡ true =
      lt-ltb 0 (length at.0.types + length at.0.core_types) (omega (arith, slice_get_within (of (scope_in at.0)) i x at.2, within (scope_in at.0))) in
      let place = place_found is_occupied scopes count at.0 at.1 some in
      some_there (occupied scopes) place.0 count place.1
