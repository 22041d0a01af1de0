-- Components that remain well formed.
use Rattle.std.proofs.Common.{arith, ◌≡◌, ℕ, Bool, true, false, List, [], ◌∷◌, ◌++◌, Option, Some, append-nil, append_assoc, fold, map, ap, sym, refl, subst}
use Rattle.std.proofs.Common.{◌∙◌, nat_lt}
use Rattle.std.proofs.lemmas.Grind.{flat_map-append}
use Rattle.std.proofs.lemmas.List.{map-append}
use Rattle.std.proofs.lemmas.Option.{cond_some}
use Rattle.std.specs.Prelude.{if◌then◌else◌}
use Rattle.std.specs.List.{AllByRecursion, flat_map}
use Rattle.std.specs.Option.{option_to_list}
use Rattle.smith_syntax.specs.Entries.{CoreEntry, Entry, ImportEntry}
use Rattle.smith_syntax.specs.Scope.{Scope}
use Rattle.smith_syntax.specs.WellFormed.{FormedCores, FormedTypes}
use Rattle.smith_tree.specs.Spaces.{Spaces, after_canon, after_export, after_import, after_part as spaces_after, spaces_of}
use Rattle.smith_tree.specs.Tree.{ExportEntry, Part, Tree, add, ends, exports_in, exports_of, first, imports_in, imports_of, own, parts_of}
use Rattle.smith_tree.specs.Tree as part
use Rattle.smith_tree.specs.WellFormed.{Formed, FormedCanons, FormedExports, FormedImport, FormedPart, WellFormed, export_names, import_names, scope_of}
use Rattle.smith_edit.specs.Edited.{after_canon as edit_canon, after_core, after_export as edit_export, after_import as edit_import, after_one, after_part}
use Rattle.smith_edit.specs.Edited.{after_section, after_type, and_part}
use Rattle.smith_edit.specs.Edited.{canon_edited, core_row, export_edited, import_edited, part_edited, ref_edited, rows, tree_edited, type_row, within}
use Rattle.smith_edit.specs.Edits.{without}
use Rattle.smith_edit.specs.Items.{core_items, entry_items, none_inside, tree_items}
use Rattle.smith_edit.specs.Removal.{inside, past, removes}
use Rattle.smith_edit.specs.Renumbering.{new_index}
use Rattle.smith_edit.specs.Walk.{Walk, entered, new_scope, skipped}
use Rattle.smith_edit.specs.declared.walk.Removal.TheVariants.{Everything, Items}
use Rattle.smith_edit.specs.declared.walk.Scope.{Scope as Indexes}
use Rattle.smith_edit.proofs.Past.{part_outer}
use Rattle.smith_edit.proofs.FormedRows.{CanonOk, CoreOk, ExportOk, ImportOk, TypeOk, adds_core, adds_type, canons_remain, cores_remain, exports_remain}
use Rattle.smith_edit.proofs.FormedRows.{imports_remain, rows_formed, rows_nothing, types_remain}
use Rattle.smith_edit.proofs.FormedTypes.{ScopesFollow, no_scopes, some_index, then_scopes}
use Rattle.smith_edit.proofs.Perhaps.{Perhaps, either, gives, mapped, nothing, whatever}
use Rattle.smith_edit.proofs.Places.{PlaceFollows, nothing_yet, scope}
use Rattle.smith_edit.proofs.Sublists.{Sub, keep, named_sub, none, nothing_of, skip, sub_append}
use Rattle.smith_tree.proofs.Components.{spaces_added}

-- spaces after a section

cores_added : (ts : List CoreEntry) (s : Spaces) → fold adds_core s ts ≡ record s { core_types = s.core_types ++ ts }
cores_added [] s = ap (λ xs. record s { core_types = xs }) (sym (append-nil s.core_types))
cores_added (t ∷ ts) s = cores_added ts (adds_core s t) ∙ ap (λ xs. record s { core_types = xs }) (append_assoc s.core_types (t ∷ []) ts)

types_added : (es : List Entry) (s : Spaces) → fold adds_type s es ≡ record s { types = s.types ++ es }
types_added [] s = ap (λ xs. record s { types = xs }) (sym (append-nil s.types))
types_added (e ∷ es) s = types_added es (adds_type s e) ∙ ap (λ xs. record s { types = xs }) (append_assoc s.types (e ∷ []) es)

pub parts_added : (t : Tree) (p : Part) → parts_of (add t p) ≡ parts_of t ++ p ∷ []
parts_added ends p = refl
parts_added (first q t) p = ap (λ ps. q ∷ ps) (parts_added t p)

pub own_added : {A : Type 0} (f : Part → List A) (t : Tree) (p : Part) → own f (add t p) ≡ own f t ++ f p
own_added f t p = ap (flat_map f) (parts_added t p) ∙ flat_map-append f (parts_of t) (p ∷ []) ∙ ap (λ xs. own f t ++ xs) (append-nil (f p))

-- if everything is removed nothing is added
nothing_added : (p : Part) (w : Walk) (s : Spaces) → w.removal ≡ Everything → spaces_after s (part_edited p w) ≡ s
nothing_added (part.core_types ts) w s e = ap (λ xs. record s { core_types = s.core_types ++ xs }) (rows_nothing core_items core_row after_core ts w e)
    ∙ ap (λ xs. record s { core_types = xs }) (append-nil s.core_types)
nothing_added (part.types es) w s e = ap (λ xs. record s { types = s.types ++ xs }) (rows_nothing entry_items type_row after_type es w e)
    ∙ ap (λ xs. record s { types = xs }) (append-nil s.types)
nothing_added (part.canons fs) w s e = ap (fold after_canon s) (rows_nothing none_inside canon_edited edit_canon fs w e)
nothing_added (part.imports is) w s e = ap (fold after_import s) (rows_nothing none_inside import_edited edit_import is w e)
nothing_added (part.exports es) w s e = ap (fold after_export s) (rows_nothing none_inside export_edited edit_export es w e)
nothing_added p w s e = refl

-- names

module _ {A N : Type 0} (items : A → ℕ) (edited : Walk → A → Option A) (after : Indexes → A → Option A → Indexes) (name : A → N)
    (kept : (w : Walk) (x : A) → Perhaps (λ y. name y ≡ name x) (edited w x)) where
  name_then : {o : Option A} (n : N) → Perhaps (λ y. name y ≡ n) o → (ys : List A) (ns : List N) → Sub (map name ys) ns
      → Sub (map name (option_to_list o ++ ys)) (n ∷ ns)
  name_then n (nothing why) ys ns s = skip n (map name ys) ns s
  name_then n (gives y is) ys ns s = subst (λ m. Sub (m ∷ map name ys) (n ∷ ns)) (sym is) (keep n (map name ys) ns s)

  rows_names : (xs : List A) (w : Walk) → Sub (map name (rows items edited after w xs)) (map name xs)
  rows_names [] w = none
  rows_names (x ∷ xs) w =
      let v : Walk = after_one items edited after w x in
      name_then (name x) (either (removes w.removal) (nothing tt) (kept (skipped 1 w) x)) (rows items edited after v xs) (map name xs) (rows_names xs v)

import_name : (w : Walk) (i : ImportEntry) → Perhaps (λ x. x.name ≡ i.name) (import_edited w i)
import_name w i = mapped (λ r. record i { to = r }) (λ r h. refl) (whatever {P = λ r. Unit {0}} (ref_edited w.own i.to) (λ r. tt))

export_name : (w : Walk) (e : ExportEntry) → Perhaps (λ x. x.name ≡ e.name) (export_edited w e)
export_name w e = mapped (λ f. record e { func = f }) (λ f h. refl) (some_index (new_index w.own.functions e.func))

pub record NamesFollow (before before2 : Tree) : Type 0 where
  pub of_imports : Sub (import_names (imports_of before2)) (import_names (imports_of before))
  pub of_exports : Sub (export_names (exports_of before2)) (export_names (exports_of before))

pub part_imports : (p : Part) (w : Walk) → Sub (import_names (imports_in (part_edited p w))) (import_names (imports_in p))
part_imports (part.imports is) w = rows_names none_inside import_edited edit_import (λ i. i.name) import_name is w
part_imports p w = none

pub part_exports : (p : Part) (w : Walk) → Sub (export_names (exports_in (part_edited p w))) (export_names (exports_in p))
part_exports (part.exports es) w = rows_names none_inside export_edited edit_export (λ e. e.name) export_name es w
part_exports p w = none

sub_names : {A : Type 0} (name : A → List ℕ) (as2 cs2 as1 cs1 : List A) → Sub (map name as2) (map name as1) → Sub (map name cs2) (map name cs1)
    → Sub (map name (as2 ++ cs2)) (map name (as1 ++ cs1))
sub_names name as2 cs2 as1 cs1 s t = grind (arith, map-append, sub_append)

module _ {A : Type 0} (name : A → List ℕ) (of : Part → List A) (before before2 : Tree) (p : Part)
    (s : Sub (map name (own of before2)) (map name (own of before))) where
  more_names : (q : Part) → Sub (map name (of q)) (map name (of p)) → Sub (map name (own of (add before2 q))) (map name (own of (add before p)))
  more_names q t = rw (own_added of before2 q, own_added of before p) (sub_names name (own of before2) (of q) (own of before) (of p) s t)

  fewer_names : Sub (map name (own of before2)) (map name (own of (add before p)))
  fewer_names = rw (own_added of before p)
      (subst (λ xs. Sub (map name xs) (map name (own of before ++ of p))) (append-nil (own of before2))
      (sub_names name (own of before2) [] (own of before) (of p) s (nothing_of (map name (of p)))))

names_kept : (before before2 : Tree) (p : Part) (w : Walk) → NamesFollow before before2 → NamesFollow (add before p) (add before2 (part_edited p w))
names_kept before before2 p w n = record {
  of_imports = more_names (λ i. i.name) imports_in before before2 p n.of_imports (part_edited p w) (part_imports p w);
  of_exports = more_names (λ e. e.name) exports_in before before2 p n.of_exports (part_edited p w) (part_exports p w);
}

names_removed : (before before2 : Tree) (p : Part) → NamesFollow before before2 → NamesFollow (add before p) before2
names_removed before before2 p n = record {
  of_imports = fewer_names (λ i. i.name) imports_in before before2 p n.of_imports;
  of_exports = fewer_names (λ e. e.name) exports_in before before2 p n.of_exports;
}

-- sections

formed_and : (b : Bool) (q : Part) (rest : Tree) (outer : List Scope) (before : Tree) → (b ≡ true → Formed rest outer before)
    → (b ≡ false → FormedPart q outer before × Formed rest outer (add before q)) → Formed (and_part b q rest) outer before
formed_and true q rest outer before h k = h refl
formed_and false q rest outer before h k = k refl

-- what sections are without the names of imports and exports

abbrev pub BarePart : Part → List Scope → Tree → Type 0
BarePart (part.core_types ts) outer before = FormedCores ts (scope_of before)
BarePart (part.component t) outer before = Formed t (scope_of before ∷ outer) ends
BarePart (part.types es) outer before = FormedTypes es (scope_of before) outer
BarePart (part.canons fs) outer before = FormedCanons fs (spaces_of before)
BarePart (part.imports is) outer before = AllByRecursion (FormedImport (scope_of before)) is
BarePart (part.exports es) outer before = FormedExports es (spaces_of before)
BarePart p outer before = Unit {0}

part_named : (p : Part) (w : Walk) (before before2 : Tree) (outer outer2 : List Scope) → NamesFollow before before2 → FormedPart p outer before
    → BarePart (part_edited p w) outer2 before2 → FormedPart (part_edited p w) outer2 before2
part_named (part.imports is) w before before2 outer outer2 n h b = (
  b,
  named_sub _ _ (sub_names (λ i. i.name) (imports_of before2) (rows none_inside import_edited edit_import w is) (imports_of before) is n.of_imports
      (part_imports (part.imports is) w)) h.1,
)
part_named (part.exports es) w before before2 outer outer2 n h b = (
  b,
  named_sub _ _ (sub_names (λ e. e.name) (exports_of before2) (rows none_inside export_edited edit_export w es) (exports_of before) es n.of_exports
      (part_exports (part.exports es) w)) h.1,
)
part_named p w before before2 outer outer2 n h b = b

mutual
  pub part_bare : (p : Part) (w : Walk) (before before2 : Tree) (outer outer2 : List Scope) → PlaceFollows w.own (spaces_of before) (spaces_of before2)
      → ScopesFollow w.outer outer outer2
      → FormedPart p outer before → BarePart (part_edited p w) outer2 before2 × PlaceFollows (after_part w p).own (spaces_after (spaces_of before) p)
      (spaces_after (spaces_of before2) (part_edited p w))
  part_bare (part.core_types ts) w before before2 outer outer2 f q h =
      let s : Spaces = spaces_of before in
      let s2 : Spaces = spaces_of before2 in
      let new : List CoreEntry = rows core_items core_row after_core w ts in
      let (formed, follows) = rows_formed CoreOk adds_core (λ xs z o. FormedCores xs (scope z)) (λ z o. tt) (λ x xs z o k. k) (λ x xs z o k. k)
      core_items core_row after_core cores_remain ts w s s2 outer outer2 f q h in (
        formed,
        subst (λ z. PlaceFollows (after_part w (part.core_types ts)).own (record s { core_types = s.core_types ++ ts }) z) (cores_added new s2)
            (subst (λ z. PlaceFollows (after_part w (part.core_types ts)).own z (fold adds_core s2 new)) (cores_added ts s) follows),
      )
  part_bare (part.component t) w before before2 outer outer2 f q h = (
    tree_formed t (entered w) ends ends (scope_of before ∷ outer) (scope_of before2 ∷ outer2) nothing_yet
        (then_scopes w.own (scope_of before) (scope_of before2) w.outer outer outer2 f.kinds q) (record { of_imports = none; of_exports = none }) h,
    f,
  )
  part_bare (part.types es) w before before2 outer outer2 f q h =
      let s : Spaces = spaces_of before in
      let s2 : Spaces = spaces_of before2 in
      let new : List Entry = rows entry_items type_row after_type w es in
      let (formed, follows) = rows_formed TypeOk adds_type (λ xs z o. FormedTypes xs (scope z) o) (λ z o. tt) (λ x xs z o k. k) (λ x xs z o k. k)
      entry_items type_row after_type types_remain es w s s2 outer outer2 f q h in (
        formed,
        subst (λ z. PlaceFollows (after_part w (part.types es)).own (record s { types = s.types ++ es }) z) (types_added new s2)
            (subst (λ z. PlaceFollows (after_part w (part.types es)).own z (fold adds_type s2 new)) (types_added es s) follows),
      )
  part_bare (part.canons fs) w before before2 outer outer2 f q h =
      rows_formed CanonOk after_canon (λ xs z o. FormedCanons xs z) (λ z o. tt) (λ x xs z o k. k) (λ x xs z o k. k) none_inside canon_edited edit_canon
      canons_remain fs w (spaces_of before) (spaces_of before2) outer outer2 f q h
  part_bare (part.imports is) w before before2 outer outer2 f q h =
      rows_formed ImportOk after_import (λ xs z o. AllByRecursion (FormedImport (scope z)) xs) (λ z o. tt) (λ x xs z o k. k) (λ x xs z o k. k)
      none_inside import_edited edit_import imports_remain is w (spaces_of before) (spaces_of before2) outer outer2 f q h.0
  part_bare (part.exports es) w before before2 outer outer2 f q h =
      rows_formed ExportOk after_export (λ xs z o. FormedExports xs z) (λ z o. tt) (λ x xs z o k. k) (λ x xs z o k. k) none_inside export_edited edit_export
      exports_remain es w (spaces_of before) (spaces_of before2) outer outer2 f q h.0
  part_bare p w before before2 outer outer2 f q h = (tt, f)

  pub tree_formed : (t : Tree) (w : Walk) (before before2 : Tree) (outer outer2 : List Scope) → PlaceFollows w.own (spaces_of before) (spaces_of before2)
      → ScopesFollow w.outer outer outer2 → NamesFollow before before2 → Formed t outer before → Formed (tree_edited t w) outer2 before2
  tree_formed ends w before before2 outer outer2 f q n h = tt
  tree_formed (first p t) w before before2 outer outer2 f q n h =
      let v : Walk = after_section w p in
      let x : Part = part_edited p (within w) in
      let (formed, follows) = part_bare p (within w) before before2 outer outer2 f q h.0 in
      let around : ScopesFollow v.outer outer outer2 = subst (λ ss. ScopesFollow ss outer outer2) (sym (part_outer (within w) p)) q in
      let here : PlaceFollows v.own (spaces_of (add before p)) (spaces_after (spaces_of before2) x) =
      subst (λ s. PlaceFollows v.own s (spaces_after (spaces_of before2) x)) (sym (spaces_added before p)) follows in
      formed_and (removes w.removal) x (tree_edited t v) outer2 before2
      (λ b.
      let all : inside w.removal ≡ Everything = ap (λ c. if c then Everything else past 1 w.removal) b in
      tree_formed t v (add before p) before2 outer outer2
      (subst (PlaceFollows v.own (spaces_of (add before p))) (nothing_added p (within w) (spaces_of before2) all) here) around
      (names_removed before before2 p n) h.1)
      (λ b. (
        part_named p (within w) before before2 outer outer2 n h.0 formed,
        tree_formed t v (add before p) (add before2 x) outer outer2
            (subst (PlaceFollows v.own (spaces_of (add before p))) (sym (spaces_added before2 x)) here) around (names_kept before before2 p (within w) n) h.1,
      ))

pub without_formed : (k : ℕ) (t less : Tree) → without k t ≡ Some less → WellFormed t → WellFormed less
without_formed k t less e h =
    let w : Walk = record { removal = Items k k; own = new_scope; outer = [] } in
    let (there, is) = cond_some (nat_lt k (tree_items t)) (tree_edited t w) less e in
    subst WellFormed is (tree_formed t w ends ends [] [] nothing_yet no_scopes (record { of_imports = none; of_exports = none }) h)
