-- If all that is removed is removed with more, no more entries are left, in any section.
use Rattle.std.proofs.Common.{◌≡◌, ℕ, ◌+◌, ◌≤◌, Bool, true, false, nat_eq, List, [], ◌∷◌, Option, None, Some, length, length-append}
use Rattle.std.proofs.Common.{ap, sym, refl, subst, ◌∙◌, arith}
use Rattle.std.proofs.lemmas.Bool.{eqb-true}
use Rattle.std.proofs.lemmas.Bool.Decides.{nat_tests}
use Rattle.std.proofs.lemmas.Grind.{flat_map-append}
use Rattle.std.specs.Prelude.{if◌then◌else◌}
use Rattle.std.specs.List.{flat_map}
use Rattle.std.specs.Option.{is_some, option_map, option_to_list}
use Rattle.smith_syntax.specs.Entries.{CoreEntry, Entry, ImportEntry}
use Rattle.smith_syntax.specs.Entries.{defined, function, component_type, instance_type}
use Rattle.smith_syntax.specs.declared.deftype.ComponentTypeRef.{ComponentTypeRef}
use Rattle.smith_syntax.specs.declared.deftype.ComponentTypeRef.TheVariants as to
use Rattle.smith_tree.specs.Tree.{Canon, lift, lower, ExportEntry, Tree, Part, ends, first, own}
use Rattle.smith_tree.specs.Tree.{anywhere, anywhere_in, component_of, function_of, instance_of, module_of}
use Rattle.smith_tree.specs.Tree as part
use Rattle.smith_edit.specs.Edited.{after_canon, after_core, after_export, after_import, after_one, after_part, after_ref, after_rows, after_section}
use Rattle.smith_edit.specs.Edited.{and_part, canon_edited, core_row, defined_edited, export_edited, field_edited, import_edited}
use Rattle.smith_edit.specs.Edited.{one, part_edited, ref_edited, rows, tree_edited}
use Rattle.smith_edit.specs.Edited.{after_type, type_fate, type_row, within}
use Rattle.smith_edit.specs.Items.{core_items, entry_items, function_members, none_inside, part_items}
use Rattle.smith_edit.specs.Removal.{past, removes}
use Rattle.smith_edit.specs.Renumbering.{Renumbering, entry_at, fate_if, from, kept_index, new_index}
use Rattle.smith_edit.specs.Shapes.{shape}
use Rattle.smith_edit.specs.Walk.{Walk, entered, skipped}
use Rattle.smith_edit.specs.declared.renumbering.Fate.TheVariants.{Kept, Changed}
use Rattle.smith_edit.specs.declared.walk.Scope.{Scope}
use Rattle.smith_edit.proofs.Shorter.{members_fewer, optional_fewer}
use Rattle.smith_edit.proofs.Covered.{Covers, Further, amount, amount_most, covered_here, covered_inside, covered_past, fate_further}
use Rattle.smith_edit.proofs.Covered.{fewer_fields, fewer_kept, fewer_left, fewer_mapped, fewer_members, fewer_optional, fewer_shapes}
use Rattle.smith_edit.proofs.Covered.{further_entry, further_like, rank, rank_most}

none_further : (s : Renumbering) → Further s s
none_further s = record { alike = refl; later = λ i. omega arith }

-- what is known at a place

record FurtherScope (s q : Scope) : Type 0 where
  types : Further s.types q.types
  core_types : Further s.core_types q.core_types
  functions : Further s.functions q.functions
  core_functions : Further s.core_functions q.core_functions

pub record FurtherWalk (w v : Walk) : Type 0 where
  pub covers : Covers w.removal v.removal
  own : FurtherScope w.own v.own

further_skipped : (n : ℕ) (w v : Walk) → FurtherWalk w v → FurtherWalk (skipped n w) (skipped n v)
further_skipped n w v k = record { covers = covered_past n w.removal v.removal k.covers; own = k.own }

pub further_within : (w v : Walk) → FurtherWalk w v → FurtherWalk (within w) (within v)
further_within w v k = record { covers = covered_inside w.removal v.removal k.covers; own = k.own }

-- each entry alone
abbrev pub alone : {A : Type 0} → A → List A
alone x = x ∷ []

pub all_alone : {A : Type 0} (xs : List A) → flat_map alone xs ≡ xs
all_alone [] = refl
all_alone (x ∷ xs) = ap (λ ys. x ∷ ys) (all_alone xs)

-- Entries in order, if what is left of an entry, if it is, and what is left of it with more removed are in a relation.
module _ {A : Type 0} (items : A → ℕ) (edited : Walk → A → Option A) (adds : Scope → A → Option A → Scope)
    (Left : A → Option A → Option A → Type 0)
    (fewer : (w v : Walk) → FurtherWalk w v → (x : A) → Left x (edited w x) (edited v x))
    (gone : (x : A) (o p : Option A) → Left x o p → Left x o None)
    (both_gone : (x : A) → Left x None None)
    (further : (s q : Scope) → FurtherScope s q → (x : A) (o p : Option A) → Left x o p → FurtherScope (adds s x o) (adds q x p)) where
  one_left : (w v : Walk) → FurtherWalk w v → (x : A) → Left x (one items edited adds w x) (one items edited adds v x)
  one_left w v k x = go (removes w.removal) (removes v.removal) (covered_here w.removal v.removal k.covers)
    where
      inner : Left x (edited (skipped 1 w) x) (edited (skipped 1 v) x)
      inner = fewer (skipped 1 w) (skipped 1 v) (further_skipped 1 w v k) x

      go : (a b : Bool) → (a ≡ true → b ≡ true) → Left x (if a then None else edited (skipped 1 w) x) (if b then None else edited (skipped 1 v) x)
      go true true c = both_gone x
      go true false c = let bad = c refl in absurd cc
      go false true c = gone x (edited (skipped 1 w) x) (edited (skipped 1 v) x) inner
      go false false c = inner

  further_one : (w v : Walk) → FurtherWalk w v → (x : A) → FurtherWalk (after_one items edited adds w x) (after_one items edited adds v x)
  further_one w v k x = record {
    covers = covered_past (items x + 1) w.removal v.removal k.covers;
    own = further w.own v.own k.own x (one items edited adds w x) (one items edited adds v x) (one_left w v k x);
  }

  further_rows : (w v : Walk) → FurtherWalk w v → (xs : List A) → FurtherWalk (after_rows items edited adds w xs) (after_rows items edited adds v xs)
  further_rows w v k [] = k
  further_rows w v k (x ∷ xs) = further_rows (after_one items edited adds w x) (after_one items edited adds v x) (further_one w v k x) xs

  -- what the entries have in them, if no more of it is left with more removed
  module _ {B : Type 0} (held : A → List B)
      (least : (x : A) (o p : Option A) → Left x o p → length (flat_map held (option_to_list p)) ≤ length (flat_map held (option_to_list o))) where
    fewer_rows : (w v : Walk) → FurtherWalk w v → (xs : List A)
        → length (flat_map held (rows items edited adds v xs)) ≤ length (flat_map held (rows items edited adds w xs))
    fewer_rows w v k [] = omega arith
    fewer_rows w v k (x ∷ xs) =
        let o = one items edited adds w x in
        let p = one items edited adds v x in
        let more = rows items edited adds (after_one items edited adds w x) xs in
        let less = rows items edited adds (after_one items edited adds v x) xs in
        let here = least x o p (one_left w v k x) in
        let rest = fewer_rows (after_one items edited adds w x) (after_one items edited adds v x) (further_one w v k x) xs in
        rw (flat_map-append held (option_to_list o) more, flat_map-append held (option_to_list p) less)
        (omega (
          arith,
          here,
          rest,
          length-append (flat_map held (option_to_list o)) (flat_map held more),
          length-append (flat_map held (option_to_list p)) (flat_map held less),
        ))

  -- the entries themselves
  fewer_entries : ((x : A) (o p : Option A) → Left x o p → amount p ≤ amount o) → (w v : Walk) → FurtherWalk w v → (xs : List A)
      → length (rows items edited adds v xs) ≤ length (rows items edited adds w xs)
  fewer_entries least w v k xs = rw (all_alone (rows items edited adds w xs), all_alone (rows items edited adds v xs)) at
      (fewer_rows alone (λ x o p h. rw (all_alone (option_to_list o), all_alone (option_to_list p)) (least x o p h)) w v k xs)

abbrev Fewer : {A : Type 0} → A → Option A → Option A → Type 0
Fewer x o p = amount p ≤ amount o

-- core types

fewer_cores : (w v : Walk) → FurtherWalk w v → (t : CoreEntry) → Fewer t (core_row w t) (core_row v t)
fewer_cores w v k t = omega arith

gone_itself : {A : Type 0} (x : A) (o p : Option A) → Fewer x o p → Fewer x o None
gone_itself x o p h = omega arith

none_itself : {A : Type 0} (x : A) → Fewer x None None
none_itself x = omega arith

further_core : (s q : Scope) → FurtherScope s q → (t : CoreEntry) (o p : Option CoreEntry) → Fewer t o p → FurtherScope (after_core s t o) (after_core q t p)
further_core s q k t o p h = record {
  core_types = further_entry s.core_types q.core_types (fate_if (is_some o) Kept) (fate_if (is_some p) Kept) k.core_types
      (fate_further o p Kept Kept h (omega arith));
  types = k.types;
  functions = k.functions;
  core_functions = k.core_functions;
}

-- types: what is left of the parameters and results of a function

abbrev parts_left : Option Entry → ℕ
parts_left None = 0
parts_left (Some e) = function_members e + 1

record TypeLeft (e : Entry) (o p : Option Entry) : Type 0 where
  fewer : parts_left p ≤ parts_left o
  most : parts_left o ≤ function_members e + 1

plain_left : {A : Type 0} (f : A → Entry) (o : Option A) → ((x : A) → function_members (f x) ≡ 0) → parts_left (option_map f o) ≡ amount o
plain_left f None h = refl
plain_left f (Some x) h = omega (arith, h x)

type_left : (w v : Walk) → FurtherWalk w v → (e : Entry) → TypeLeft e (type_row w e) (type_row v e)
type_left w v k (defined t) =
    let o = defined_edited w.own.types w.removal t in
    let p = defined_edited v.own.types v.removal t in
    let less : amount p ≤ amount o = fewer_shapes w.own.types v.own.types k.own.types w.removal v.removal k.covers (shape t) in
    let of_first = plain_left defined o (λ u. refl) in
    let of_other = plain_left defined p (λ u. refl) in
    record { fewer = omega (arith, less, of_first, of_other); most = omega (arith, of_first, amount_most o) }
type_left w v k (function g) = record {
  fewer =
      let s = w.own.types in
      let q = v.own.types in
      let results = past (length g.params) w.removal in
      let others = past (length g.params) v.removal in
      let params = fewer_members (field_edited s) (field_edited q) (fewer_fields s q k.own.types) w.removal v.removal k.covers g.params in
      let result = fewer_optional s q k.own.types results others (covered_past (length g.params) w.removal v.removal k.covers) g.result in
      omega (arith, params, result);
  most =
      let params = members_fewer (field_edited w.own.types) w.removal g.params in
      let result = optional_fewer w.own.types (past (length g.params) w.removal) g.result in
      omega (arith, params, result);
}
type_left w v k (component_type ds) = record { fewer = omega arith; most = omega arith }
type_left w v k (instance_type ds) = record { fewer = omega arith; most = omega arith }

gone_type : (e : Entry) (o p : Option Entry) → TypeLeft e o p → TypeLeft e o None
gone_type e o p h = record { fewer = omega arith; most = h.most }

no_type : (e : Entry) → TypeLeft e None None
no_type e = record { fewer = omega arith; most = omega arith }

fate_of : (e : Entry) (o p : Option Entry) → TypeLeft e o p → rank (type_fate e o) ≤ rank (type_fate e p)
fate_of e o None h = rank_most (type_fate e o)
fate_of e None (Some y) h = absurd (omega (arith, h.fewer))
fate_of e (Some x) (Some y) h = go (nat_eq (function_members x) (function_members e)) refl (nat_eq (function_members y) (function_members e)) refl
  where
    go : (a : Bool) → nat_eq (function_members x) (function_members e) ≡ a → (b : Bool) → nat_eq (function_members y) (function_members e) ≡ b
        → rank (if a then Kept else Changed) ≤ rank (if b then Kept else Changed)
    go true i b j = omega arith
    go false i false j = omega arith
    go false i true j =
        let whole = eqb-true (function_members y) (function_members e) j in
        let same : function_members x ≡ function_members e = omega (arith, whole, h.fewer, h.most) in
        let kept : nat_eq (function_members x) (function_members e) ≡ true = grind (arith, nat_tests) in
        let bad : true ≡ false = sym kept ∙ i in
        absurd cc

further_type : (s q : Scope) → FurtherScope s q → (e : Entry) (o p : Option Entry) → TypeLeft e o p → FurtherScope (after_type s e o) (after_type q e p)
further_type s q k e o p h = record {
  types = further_entry s.types q.types (type_fate e o) (type_fate e p) k.types (fate_of e o p h);
  core_types = k.core_types;
  functions = k.functions;
  core_functions = k.core_functions;
}

amount_left : (o p : Option Entry) → parts_left p ≤ parts_left o → amount p ≤ amount o
amount_left o None h = omega arith
amount_left None (Some y) h = absurd (omega (arith, h))
amount_left (Some x) (Some y) h = omega arith

-- canonical functions

fewer_canons : (w v : Walk) → FurtherWalk w v → (f : Canon) → Fewer f (canon_edited w f) (canon_edited v f)
fewer_canons w v k (lift c t) = go (kept_index w.own.core_functions c) (kept_index v.own.core_functions c)
    (fewer_kept w.own.core_functions v.own.core_functions c k.own.core_functions)
  where
    go : (o p : Option ℕ) → amount p ≤ amount o
        → amount (elim p [ None ↦ None | Some d ↦ option_map (lift d) (kept_index v.own.types t) ])
        ≤ amount (elim o [ None ↦ None | Some d ↦ option_map (lift d) (kept_index w.own.types t) ])
    go o None h = omega arith
    go None (Some y) h = absurd (omega (arith, h))
    go (Some x) (Some y) h = fewer_mapped (lift x) (lift y) (kept_index w.own.types t) (kept_index v.own.types t)
        (fewer_kept w.own.types v.own.types t k.own.types)
fewer_canons w v k (lower f) = fewer_mapped lower lower (kept_index w.own.functions f) (kept_index v.own.functions f)
    (fewer_kept w.own.functions v.own.functions f k.own.functions)

further_canon : (s q : Scope) → FurtherScope s q → (f : Canon) (o p : Option Canon) → Fewer f o p → FurtherScope (after_canon s f o) (after_canon q f p)
further_canon s q k (lift c t) o p h = record {
  functions = further_entry s.functions q.functions (fate_if (is_some o) Kept) (fate_if (is_some p) Kept) k.functions
      (fate_further o p Kept Kept h (omega arith));
  types = k.types;
  core_types = k.core_types;
  core_functions = k.core_functions;
}
further_canon s q k (lower f) o p h = record {
  core_functions = further_entry s.core_functions q.core_functions (fate_if (is_some o) Kept) (fate_if (is_some p) Kept) k.core_functions
      (fate_further o p Kept Kept h (omega arith));
  types = k.types;
  core_types = k.core_types;
  functions = k.functions;
}

-- imports

-- the functions of an import
abbrev pub functions_in : ImportEntry → List ℕ
functions_in i = function_of i.to

-- what an import is, if it is a module, a component or an instance

abbrev pub modules_of : ImportEntry → List ℕ
modules_of i = module_of i.to

abbrev pub components_of : ImportEntry → List ℕ
components_of i = component_of i.to

abbrev pub instances_of : ImportEntry → List ℕ
instances_of i = instance_of i.to

abbrev pub NoMoreOf : (ImportEntry → List ℕ) → Option ImportEntry → Option ImportEntry → Type 0
NoMoreOf held o p = length (flat_map held (option_to_list p)) ≤ length (flat_map held (option_to_list o))

pub record ImportLeft (i : ImportEntry) (o p : Option ImportEntry) : Type 0 where
  fewer : amount p ≤ amount o
  pub functions : NoMoreOf functions_in o p
  pub modules : NoMoreOf modules_of o p
  pub components : NoMoreOf components_of o p
  pub instances : NoMoreOf instances_of o p

none_there : (i : ImportEntry) (o : Option ImportEntry) → ImportLeft i o None
none_there i o = record { fewer = omega arith; functions = omega arith; modules = omega arith; components = omega arith; instances = omega arith }

-- an import of the same sort, by the index of its type
import_by : (i : ImportEntry) (make : ℕ → ComponentTypeRef)
    → ((j k : ℕ) → ImportLeft i (Some (record i { to = make j })) (Some (record i { to = make k }))) → (o p : Option ℕ) → amount p ≤ amount o
    → ImportLeft i (option_map (λ r. record i { to = r }) (option_map make o)) (option_map (λ r. record i { to = r }) (option_map make p))
import_by i make each o None h = none_there i (option_map (λ r. record i { to = r }) (option_map make o))
import_by i make each None (Some y) h = absurd (omega (arith, h))
import_by i make each (Some x) (Some y) h = each x y

import_left : (w v : Walk) → FurtherWalk w v → (i : ImportEntry) → ImportLeft i (import_edited w i) (import_edited v i)
import_left w v k i = go i.to
  where
    types : (j : ℕ) → amount (new_index v.own.types j) ≤ amount (new_index w.own.types j)
    types j = fewer_left w.own.types v.own.types j k.own.types

    go : (r : ComponentTypeRef)
        → ImportLeft i (option_map (λ q. record i { to = q }) (ref_edited w.own r)) (option_map (λ q. record i { to = q }) (ref_edited v.own r))
    go (to.Module j) = import_by i to.Module
        (λ x y. record { fewer = omega arith; functions = omega arith; modules = omega arith; components = omega arith; instances = omega arith })
        (new_index w.own.core_types j) (new_index v.own.core_types j) (fewer_left w.own.core_types v.own.core_types j k.own.core_types)
    go (to.Func j) = import_by i to.Func
        (λ x y. record { fewer = omega arith; functions = omega arith; modules = omega arith; components = omega arith; instances = omega arith })
        (new_index w.own.types j) (new_index v.own.types j) (types j)
    go (to.TypeEq j) = import_by i to.TypeEq
        (λ x y. record { fewer = omega arith; functions = omega arith; modules = omega arith; components = omega arith; instances = omega arith })
        (new_index w.own.types j) (new_index v.own.types j) (types j)
    go (to.Component j) = import_by i to.Component
        (λ x y. record { fewer = omega arith; functions = omega arith; modules = omega arith; components = omega arith; instances = omega arith })
        (new_index w.own.types j) (new_index v.own.types j) (types j)
    go (to.Instance j) = import_by i to.Instance
        (λ x y. record { fewer = omega arith; functions = omega arith; modules = omega arith; components = omega arith; instances = omega arith })
        (new_index w.own.types j) (new_index v.own.types j) (types j)

gone_import : (i : ImportEntry) (o p : Option ImportEntry) → ImportLeft i o p → ImportLeft i o None
gone_import i o p h = none_there i o

further_import : (s q : Scope) → FurtherScope s q → (i : ImportEntry) (o p : Option ImportEntry) → ImportLeft i o p
    → FurtherScope (after_import s i o) (after_import q i p)
further_import s q k i o p h = go i.to
  where
    go : (r : ComponentTypeRef) → FurtherScope (after_ref s r (is_some o)) (after_ref q r (is_some p))
    go (to.Module j) = k
    go (to.Func j) = record {
      functions = further_entry s.functions q.functions (fate_if (is_some o) (entry_at s.types j).fate) (fate_if (is_some p) (entry_at q.types j).fate)
          k.functions (fate_further o p (entry_at s.types j).fate (entry_at q.types j).fate h.fewer (k.types.later j));
      types = k.types;
      core_types = k.core_types;
      core_functions = k.core_functions;
    }
    go (to.TypeEq j) = k
    go (to.Component j) = k
    go (to.Instance j) = k

-- exports

fewer_exports : (w v : Walk) → FurtherWalk w v → (e : ExportEntry) → Fewer e (export_edited w e) (export_edited v e)
fewer_exports w v k e = fewer_mapped (λ f. record e { func = f }) (λ f. record e { func = f }) (new_index w.own.functions e.func)
    (new_index v.own.functions e.func) (fewer_left w.own.functions v.own.functions e.func k.own.functions)

further_export : (s q : Scope) → FurtherScope s q → (e : ExportEntry) (o p : Option ExportEntry) → Fewer e o p
    → FurtherScope (after_export s e o) (after_export q e p)
further_export s q k e o p h = record {
  types = k.types;
  core_types = k.core_types;
  functions = further_like s.functions q.functions e.func o p k.functions h;
  core_functions = k.core_functions;
}

-- sections

further_part : (w v : Walk) → FurtherWalk w v → (p : Part) → FurtherWalk (after_part w p) (after_part v p)
further_part w v k (part.custom name contents) = k
further_part w v k (part.core_module text) = k
further_part w v k (part.core_types ts) =
    further_rows core_items core_row after_core Fewer fewer_cores gone_itself none_itself further_core w v k ts
further_part w v k (part.component t) = further_skipped (part_items (part.component t)) w v k
further_part w v k (part.types ts) =
    further_rows entry_items type_row after_type TypeLeft type_left gone_type no_type further_type w v k ts
further_part w v k (part.canons fs) =
    further_rows none_inside canon_edited after_canon Fewer fewer_canons gone_itself none_itself further_canon w v k fs
further_part w v k (part.imports is) =
    further_rows none_inside import_edited after_import ImportLeft import_left gone_import (λ i. none_there i None) further_import w v k is
further_part w v k (part.exports es) =
    further_rows none_inside export_edited after_export Fewer fewer_exports gone_itself none_itself further_export w v k es

pub further_section : (w v : Walk) → FurtherWalk w v → (p : Part) → FurtherWalk (after_section w p) (after_section v p)
further_section w v k p = record {
  covers = covered_past (part_items p + 1) w.removal v.removal k.covers;
  own = (further_part (within w) (within v) (further_within w v k) p).own;
}

pub further_entered : (w v : Walk) → FurtherWalk w v → FurtherWalk (entered w) (entered v)
further_entered w v k = record {
  covers = k.covers;
  own = record {
    types = none_further (from 0);
    core_types = none_further (from 0);
    functions = none_further (from 0);
    core_functions = none_further (from 0);
  };
}

-- what sections have, one with the sum of what follows it
sum_fewer : (part : Part → ℕ) (total : Tree → ℕ) → ((p : Part) (t : Tree) → total (first p t) ≡ part p + total t) → (p : Part) (t : Tree) (w v : Walk)
    → FurtherWalk w v → part (part_edited p (within v)) ≤ part (part_edited p (within w))
    → total (tree_edited t (after_section v p)) ≤ total (tree_edited t (after_section w p))
    → total (tree_edited (first p t) v) ≤ total (tree_edited (first p t) w)
sum_fewer part total sum p t w v k here rest = go (removes w.removal) (removes v.removal) (covered_here w.removal v.removal k.covers)
  where
    before : Part
    before = part_edited p (within w)

    after : Part
    after = part_edited p (within v)

    more : Tree
    more = tree_edited t (after_section w p)

    less : Tree
    less = tree_edited t (after_section v p)

    go : (a b : Bool) → (a ≡ true → b ≡ true) → total (and_part b after less) ≤ total (and_part a before more)
    go true true c = rest
    go true false c = let bad = c refl in absurd cc
    go false true c = omega (arith, rest, sum before more)
    go false false c = omega (arith, here, rest, sum before more, sum after less)

-- what sections have in them, if no more of it is left with more removed
module _ {A : Type 0} (held : Part → List A)
    (fewer : (w v : Walk) → FurtherWalk w v → (p : Part) → length (held (part_edited p v)) ≤ length (held (part_edited p w))) where
  pub fewer_own : (t : Tree) (w v : Walk) → FurtherWalk w v → length (own held (tree_edited t v)) ≤ length (own held (tree_edited t w))
  fewer_own ends w v k = omega arith
  fewer_own (first p t) w v k =
      sum_fewer (λ q. length (held q)) (λ u. length (own held u)) (λ q u. length-append (held q) (own held u)) p t w v k
      (fewer (within w) (within v) (further_within w v k) p)
      (fewer_own t (after_section w p) (after_section v p) (further_section w v k p))

  -- the same in the components at every depth
  mutual
    pub fewer_anywhere : (t : Tree) (w v : Walk) → FurtherWalk w v
        → length (anywhere held (tree_edited t v)) ≤ length (anywhere held (tree_edited t w))
    fewer_anywhere ends w v k = omega arith
    fewer_anywhere (first p t) w v k =
        sum_fewer (λ q. length (anywhere_in held q)) (λ u. length (anywhere held u)) (λ q u. length-append (anywhere_in held q) (anywhere held u)) p t w v k
        (fewer_anywhere_in p (within w) (within v) (further_within w v k))
        (fewer_anywhere t (after_section w p) (after_section v p) (further_section w v k p))

    fewer_anywhere_in : (p : Part) (w v : Walk) → FurtherWalk w v
        → length (anywhere_in held (part_edited p v)) ≤ length (anywhere_in held (part_edited p w))
    fewer_anywhere_in (part.component t) w v k =
        let less = tree_edited t (entered v) in
        let more = tree_edited t (entered w) in
        omega (
          arith,
          fewer w v k (part.component t),
          fewer_anywhere t (entered w) (entered v) (further_entered w v k),
          length-append (held (part.component less)) (anywhere held less),
          length-append (held (part.component more)) (anywhere held more),
        )
    fewer_anywhere_in (part.custom name contents) w v k = fewer w v k (part.custom name contents)
    fewer_anywhere_in (part.core_module text) w v k = fewer w v k (part.core_module text)
    fewer_anywhere_in (part.core_types ts) w v k = fewer w v k (part.core_types ts)
    fewer_anywhere_in (part.types ts) w v k = fewer w v k (part.types ts)
    fewer_anywhere_in (part.canons fs) w v k = fewer w v k (part.canons fs)
    fewer_anywhere_in (part.imports is) w v k = fewer w v k (part.imports is)
    fewer_anywhere_in (part.exports es) w v k = fewer w v k (part.exports es)

-- the entries of each section

pub fewer_cores_left : (w v : Walk) → FurtherWalk w v → (ts : List CoreEntry)
    → length (rows core_items core_row after_core v ts) ≤ length (rows core_items core_row after_core w ts)
fewer_cores_left = fewer_entries core_items core_row after_core Fewer fewer_cores gone_itself none_itself further_core (λ t o p h. h)

pub fewer_types_left : (w v : Walk) → FurtherWalk w v → (ts : List Entry)
    → length (rows entry_items type_row after_type v ts) ≤ length (rows entry_items type_row after_type w ts)
fewer_types_left =
    fewer_entries entry_items type_row after_type TypeLeft type_left gone_type no_type further_type (λ e o p h. amount_left o p h.fewer)

pub fewer_canons_left : (w v : Walk) → FurtherWalk w v → (fs : List Canon)
    → length (rows none_inside canon_edited after_canon v fs) ≤ length (rows none_inside canon_edited after_canon w fs)
fewer_canons_left = fewer_entries none_inside canon_edited after_canon Fewer fewer_canons gone_itself none_itself further_canon (λ f o p h. h)

pub fewer_imports_left : (w v : Walk) → FurtherWalk w v → (is : List ImportEntry)
    → length (rows none_inside import_edited after_import v is) ≤ length (rows none_inside import_edited after_import w is)
fewer_imports_left =
    fewer_entries none_inside import_edited after_import ImportLeft import_left gone_import (λ i. none_there i None) further_import
    (λ i o p h. h.fewer)

-- what the imports are, if no more of it is left
pub fewer_imported_left : (held : ImportEntry → List ℕ) → ((i : ImportEntry) (o p : Option ImportEntry) → ImportLeft i o p → NoMoreOf held o p)
    → (w v : Walk) → FurtherWalk w v → (is : List ImportEntry)
    → length (flat_map held (rows none_inside import_edited after_import v is))
    ≤ length (flat_map held (rows none_inside import_edited after_import w is))
fewer_imported_left held each =
    fewer_rows none_inside import_edited after_import ImportLeft import_left gone_import (λ i. none_there i None) further_import held each

pub fewer_exports_left : (w v : Walk) → FurtherWalk w v → (es : List ExportEntry)
    → length (rows none_inside export_edited after_export v es) ≤ length (rows none_inside export_edited after_export w es)
fewer_exports_left = fewer_entries none_inside export_edited after_export Fewer fewer_exports gone_itself none_itself further_export (λ e o p h. h)

-- before anything is removed
pub not_further : (w v : Walk) → Covers w.removal v.removal → w.own ≡ v.own → FurtherWalk w v
not_further w v c e = subst (λ s. FurtherWalk w (record v { own = s })) e (record {
  covers = c;
  own = record {
    types = none_further w.own.types;
    core_types = none_further w.own.core_types;
    functions = none_further w.own.functions;
    core_functions = none_further w.own.core_functions;
  };
})
