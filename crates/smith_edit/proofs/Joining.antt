-- Two components in one.
use Rattle.std.proofs.Common.{arith, ◌≡◌, ℕ, ◌+◌, ◌<◌, ◌≤◌, List, [], ◌∷◌, ◌++◌, append_assoc, drop, get_or, map, length, ap, sym, refl, ◌∙◌}
use Rattle.std.proofs.Common.{append-nil, fold, subst}
use Rattle.std.proofs.lemmas.List.{map-append}
use Rattle.std.specs.List.{AllByRecursion}
use Rattle.smith_read.specs.PartNodes.{shown_part_node}
use Rattle.smith_read.specs.declared.nodes.PartNode.{PartNode}
use Rattle.smith_tree.specs.Tree.{Part, Tree, ends, first, exports_in, exports_of, imports_in, imports_of, parts_of, tree_of, ExportEntry, add, own}
use Rattle.smith_tree.specs.WellFormed.{export_names, import_names, Formed, FormedExports, FormedImport, FormedPart, WellFormed}
use Rattle.smith_input.specs.Kebab.{Kebab}
use Rattle.smith_syntax.specs.Entries.{ImportEntry}
use Rattle.smith_syntax.specs.Scope.{Scope}
use Rattle.smith_syntax.specs.WellFormed.{Named}
use Rattle.smith_tree.specs.Spaces.{Spaces, after_export, after_import, after_part as spaces_after, no_spaces, spaces_of}
use Rattle.smith_edit.specs.Edited.{after_part, part_edited, tree_edited}
use Rattle.smith_edit.specs.Edits.{part_renamed, renamed, all_renamed, export_renamed, following, import_renamed, joined, moved, new_name}
use Rattle.smith_edit.specs.Removal.{inside, past}
use Rattle.smith_edit.specs.Walk.{Walk}
use Rattle.smith_edit.specs.declared.walk.Removal.{Removal}
use Rattle.smith_edit.specs.declared.walk.Removal.TheVariants.{Nothing}
use Rattle.smith_edit.proofs.Past.{after_kept, part_removal, part_outer}
use Rattle.smith_edit.proofs.Sublists.{sub_all}
use Rattle.smith_edit.proofs.Alike.{Alike, AlikeCore, Same}
use Rattle.smith_edit.proofs.Follows.{none_yet}
use Rattle.smith_edit.proofs.FormedTrees.{BarePart, own_added, part_bare, part_exports, part_imports, parts_added}
use Rattle.smith_edit.proofs.FormedTypes.{ScopesFollow, no_scopes}
use Rattle.smith_edit.proofs.NewNames.{named_none, named_push, new_is_new, new_kebab}
use Rattle.smith_edit.proofs.Places.{OfFunction, OfType, PlaceFollows}
use Rattle.smith_tree.specs.Tree as part
use Rattle.smith_tree.proofs.Components.{spaces_added}
use Rattle.smith_input.proofs.Lists.{map_drop, map_dropped}

pub parts_same : (ps : List Part) → parts_of (tree_of ps) ≡ ps
parts_same [] = refl
parts_same (p ∷ ps) = ap (λ qs. p ∷ qs) (parts_same ps)

pub tree_same : (t : Tree) → tree_of (parts_of t) ≡ t
tree_same ends = refl
tree_same (first p t) = ap (λ u. first p u) (tree_same t)

-- the names of sections

abbrev pub imported : List Part → List (List ℕ)
imported ps = import_names (imports_of (tree_of ps))

abbrev pub exported : List Part → List (List ℕ)
exported ps = export_names (exports_of (tree_of ps))

pub imported_more : (p : Part) (ps : List Part) → imported (p ∷ ps) ≡ import_names (imports_in p) ++ imported ps
imported_more p ps = map-append (λ i. i.name) (imports_in p) (imports_of (tree_of ps))

pub exported_more : (p : Part) (ps : List Part) → exported (p ∷ ps) ≡ export_names (exports_in p) ++ exported ps
exported_more p ps = map-append (λ e. e.name) (exports_in p) (exports_of (tree_of ps))

-- a tree of which nothing is removed

still : (r : Removal) → r ≡ Nothing → inside r ≡ r
still r e = rw e refl

pub unremoved_first : (p : Part) (t : Tree) (w : Walk) → w.removal ≡ Nothing → tree_edited (first p t) w
    ≡ first (part_edited p w) (tree_edited t (after_part w p))
unremoved_first p t w e = grind (arith, still, after_kept)

pub unremoved_after : (p : Part) (w : Walk) → w.removal ≡ Nothing → (after_part w p).removal ≡ Nothing
unremoved_after p w e = part_removal w p ∙ ap (past _) e

-- one more section that is moved, and the last

pub joined_step : (w v : Walk) (is es : List (List ℕ)) (xs done : List PartNode) (i : ℕ) (x y z : PartNode) (whole : List Part) → i < length xs → x
    ≡ get_or xs i x
    → w.removal ≡ Nothing → shown_part_node y ≡ part_edited (shown_part_node x) w → v ≡ after_part w (shown_part_node x)
    → shown_part_node z ≡ part_renamed is es (shown_part_node y)
    → map shown_part_node done ++ parts_of (renamed (tree_edited (tree_of (map shown_part_node (drop i xs))) w) is es) ≡ whole
    → map shown_part_node (done ++ z ∷ []) ++ parts_of (renamed (tree_edited (tree_of (map shown_part_node (drop (i + 1) xs))) v)
    (is ++ import_names (imports_in (shown_part_node z))) (es ++ export_names (exports_in (shown_part_node z)))) ≡ whole
joined_step w v is es xs done i x y z whole lt at none moved after new h = grind (arith, map-append, append_assoc, unremoved_first, map_drop)

pub joined_end : (w : Walk) (is es : List (List ℕ)) (xs : List PartNode) (i : ℕ) (left whole : List Part) → length xs ≤ i
    → left ++ parts_of (renamed (tree_edited (tree_of (map shown_part_node (drop i xs))) w) is es) ≡ whole → left ≡ whole
joined_end w is es xs i left whole h e =
    sym (append-nil left) ∙ (sym (ap (λ ps. left ++ parts_of (renamed (tree_edited (tree_of ps) w) is es)) (map_dropped shown_part_node xs i h)) ∙ e)

-- components that are joined, which are well formed

-- entries with new names

module _ {A : Type 0} (name : A → List ℕ) (rename : A → List ℕ → A) (law : (x : A) (text : List ℕ) → name (rename x text) ≡ text) where
  renamed_named : (xs : List A) (ns : List (List ℕ)) → Named ns → AllByRecursion Kebab (map name xs) → Named (ns ++ map name (all_renamed name rename ns xs))
  renamed_named [] ns h all = subst Named (sym (append-nil ns)) h
  renamed_named (x ∷ xs) ns h all =
      let new : List ℕ = new_name ns (name x) in
      let later : List (List ℕ) = map name (all_renamed name rename (ns ++ new ∷ []) xs) in
      let pushed : Named (ns ++ new ∷ []) = named_push ns new h (new_kebab ns (name x) all.0) (new_is_new ns (name x)) in
      let whole : Named (ns ++ new ∷ [] ++ later) = renamed_named xs (ns ++ new ∷ []) pushed all.1 in
      subst (λ n. Named (ns ++ n ∷ later)) (sym (law x new)) (subst Named (append_assoc ns (new ∷ []) later) whole)

imports_formed : (own : Scope) (is : List ImportEntry) (ns : List (List ℕ)) → AllByRecursion (FormedImport own) is
    → AllByRecursion (FormedImport own) (all_renamed (λ i. i.name) import_renamed ns is)
imports_formed own [] ns h = tt
imports_formed own (i ∷ is) ns h = (h.0, imports_formed own is (ns ++ new_name ns i.name ∷ []) h.1)

exports_formed : (es : List ExportEntry) (ns : List (List ℕ)) (s : Spaces) → FormedExports es s
    → FormedExports (all_renamed (λ e. e.name) export_renamed ns es) s
exports_formed [] ns s h = tt
exports_formed (e ∷ es) ns s h = (h.0, exports_formed es (ns ++ new_name ns e.name ∷ []) (after_export s e) h.1)

spaces_renamed : {A : Type 0} (name : A → List ℕ) (rename : A → List ℕ → A) (after : Spaces → A → Spaces)
    → ((s : Spaces) (x : A) (n : List ℕ) → after s (rename x n) ≡ after s x) → (xs : List A) (ns : List (List ℕ)) (s : Spaces)
    → fold after s (all_renamed name rename ns xs) ≡ fold after s xs
spaces_renamed name rename after same [] ns s = refl
spaces_renamed name rename after same (x ∷ xs) ns s =
    let new : List ℕ = new_name ns (name x) in
    ap (λ z. fold after z (all_renamed name rename (ns ++ new ∷ []) xs)) (same s x new) ∙ spaces_renamed name rename after same xs (ns ++ new ∷ []) (after s x)

-- a section with new names

renamed_spaces : (x : Part) (is es : List (List ℕ)) (s : Spaces) → spaces_after s (part_renamed is es x) ≡ spaces_after s x
renamed_spaces (part.imports js) is es s = spaces_renamed (λ i. i.name) import_renamed after_import (λ z i n. refl) js is s
renamed_spaces (part.exports fs) is es s = spaces_renamed (λ e. e.name) export_renamed after_export (λ z e n. refl) fs es s
renamed_spaces p is es s = refl

joined_names : {A : Type 0} (name : A → List ℕ) (before xs : List A) → Named (map name before ++ map name xs) → Named (map name (before ++ xs))
joined_names name before xs h = subst Named (sym (map-append name before xs)) h

renamed_part : (x : Part) (before : Tree) → BarePart x [] before → AllByRecursion Kebab (import_names (imports_in x))
    → AllByRecursion Kebab (export_names (exports_in x))
    → Named (import_names (imports_of before)) → Named (export_names (exports_of before))
    → FormedPart (part_renamed (import_names (imports_of before)) (export_names (exports_of before)) x) [] before
renamed_part (part.imports js) before b ki ke ni ne = grind (arith, imports_formed, joined_names, renamed_named)
renamed_part (part.exports fs) before b ki ke ni ne = grind (arith, exports_formed, joined_names, renamed_named)
renamed_part p before b ki ke ni ne = b

-- the names of a component that is well formed

all_later : (xs ys : List (List ℕ)) → AllByRecursion Kebab (xs ++ ys) → AllByRecursion Kebab ys
all_later [] ys h = h
all_later (x ∷ xs) ys h = all_later xs ys h.1

later_kebab : {A : Type 0} (name : A → List ℕ) (before xs : List A) → Named (map name (before ++ xs)) → AllByRecursion Kebab (map name xs)
later_kebab name before xs h = all_later (map name before) (map name xs) (subst (AllByRecursion Kebab) (map-append name before xs) h.0)

part_kebab : (p : Part) (outer : List Scope) (before : Tree) → FormedPart p outer before
    → AllByRecursion Kebab (import_names (imports_in p)) × AllByRecursion Kebab (export_names (exports_in p))
part_kebab (part.imports is) outer before h = (later_kebab (λ i. i.name) (imports_of before) is h.1, tt)
part_kebab (part.exports es) outer before h = (tt, later_kebab (λ e. e.name) (exports_of before) es h.1)
part_kebab p outer before h = (tt, tt)

same_names : {A : Type 0} (name : A → List ℕ) (xs : List A) → Named (map name xs) → Named (map name (xs ++ []))
same_names name xs h = subst (λ ys. Named (map name ys)) (sym (append-nil xs)) h

record BothNamed (before : Tree) : Type 0 where
  pub of_imports : Named (import_names (imports_of before))
  pub of_exports : Named (export_names (exports_of before))

part_named : (p : Part) (outer : List Scope) (before : Tree) → FormedPart p outer before → BothNamed before
    → Named (import_names (imports_of before ++ imports_in p)) × Named (export_names (exports_of before ++ exports_in p))
part_named (part.imports is) outer before h n = (h.1, same_names (λ e. e.name) (exports_of before) n.of_exports)
part_named (part.exports es) outer before h n = (same_names (λ i. i.name) (imports_of before) n.of_imports, h.1)
part_named p outer before h n = (same_names (λ i. i.name) (imports_of before) n.of_imports, same_names (λ e. e.name) (exports_of before) n.of_exports)

named_after : (p : Part) (outer : List Scope) (before : Tree) → FormedPart p outer before → BothNamed before → BothNamed (add before p)
named_after p outer before h n =
    let names = part_named p outer before h n in
    record {
      of_imports = subst (λ xs. Named (import_names xs)) (sym (own_added imports_in before p)) names.0;
      of_exports = subst (λ xs. Named (export_names xs)) (sym (own_added exports_in before p)) names.1;
    }

names_after : {A : Type 0} (name : A → List ℕ) (of : Part → List A) (before : Tree) (p : Part)
    → map name (own of (add before p)) ≡ map name (own of before) ++ map name (of p)
names_after name of before p = ap (map name) (own_added of before p) ∙ map-append name (own of before) (of p)

-- the second component, after the first

moved_formed : (t : Tree) (w : Walk) (before before2 : Tree) → PlaceFollows w.own (spaces_of before) (spaces_of before2) → w.removal ≡ Nothing → w.outer
    ≡ [] → Formed t [] before
    → BothNamed before2 → Formed (renamed (tree_edited t w) (import_names (imports_of before2)) (export_names (exports_of before2))) [] before2
moved_formed ends w before before2 f r o h n = tt
moved_formed (first p t) w before before2 f r o h n =
    let is : List (List ℕ) = import_names (imports_of before2) in
    let es : List (List ℕ) = export_names (exports_of before2) in
    let x : Part = part_edited p w in
    let q : Part = part_renamed is es x in
    let v : Walk = after_part w p in
    let none : ScopesFollow w.outer [] [] = subst (λ ss. ScopesFollow ss [] []) (sym o) no_scopes in
    let (bare, follows) = part_bare p w before before2 [] [] f none h.0 in
    let kebab = part_kebab p [] before h.0 in
    let formed : FormedPart q [] before2 =
    renamed_part x before2 bare (sub_all Kebab _ _ (part_imports p w) kebab.0) (sub_all Kebab _ _ (part_exports p w) kebab.1) n.of_imports n.of_exports in
    let here : PlaceFollows v.own (spaces_of (add before p)) (spaces_of (add before2 q)) =
    subst (λ s. PlaceFollows v.own s (spaces_of (add before2 q))) (sym (spaces_added before p))
    (subst (PlaceFollows v.own (spaces_after (spaces_of before) p)) (sym (spaces_added before2 q ∙ renamed_spaces x is es (spaces_of before2))) follows) in
    let later : Formed (renamed (tree_edited t v) (import_names (imports_of (add before2 q))) (export_names (exports_of (add before2 q)))) [] (add before2 q) =
    moved_formed t v (add before p) (add before2 q) here (unremoved_after p w r) (part_outer w p ∙ o) h.1 (named_after q [] before2 formed n) in
    let rest : Formed (renamed (tree_edited t v) (is ++ import_names (imports_in q)) (es ++ export_names (exports_in q))) [] (add before2 q) =
    subst (λ ns. Formed (renamed (tree_edited t v) ns (es ++ export_names (exports_in q))) [] (add before2 q)) (names_after (λ i. i.name) imports_in before2 q)
    (subst (λ ns. Formed (renamed (tree_edited t v) (import_names (imports_of (add before2 q))) ns) [] (add before2 q))
    (names_after (λ e. e.name) exports_in before2 q) later) in
    subst (λ u. Formed (renamed u is es) [] before2) (sym (unremoved_first p t w r)) (formed, rest)

-- both

abbrev extended : Tree → Tree → Tree
extended before ends = before
extended before (first p t) = extended (add before p) t

extended_parts : (t before : Tree) → parts_of (extended before t) ≡ parts_of before ++ parts_of t
extended_parts ends before = sym (append-nil (parts_of before))
extended_parts (first p t) before =
    extended_parts t (add before p) ∙ ap (λ ps. ps ++ parts_of t) (parts_added before p) ∙ append_assoc (parts_of before) (p ∷ []) (parts_of t)

extended_same : (t : Tree) → extended ends t ≡ t
extended_same t = sym (tree_same (extended ends t)) ∙ ap tree_of (extended_parts t ends) ∙ tree_same t

extended_named : (t : Tree) (outer : List Scope) (before : Tree) → Formed t outer before → BothNamed before → BothNamed (extended before t)
extended_named ends outer before h n = n
extended_named (first p t) outer before h n = extended_named t outer (add before p) h.1 (named_after p outer before h.0 n)

both_formed : (t x : Tree) (outer : List Scope) (before : Tree) → Formed t outer before → Formed x outer (extended before t)
    → Formed (tree_of (parts_of t ++ parts_of x)) outer before
both_formed ends x outer before h k = subst (λ u. Formed u outer before) (sym (tree_same x)) k
both_formed (first p t) x outer before h k = (h.0, both_formed t x outer (add before p) h.1 k)

pub joined_formed : (left right : Tree) → WellFormed left → WellFormed right → WellFormed (joined left right)
joined_formed left right h k =
    let s : Spaces = spaces_of left in
    let w : Walk = record { removal = Nothing; own = following s; outer = [] } in
    let named : BothNamed left = subst BothNamed (extended_same left)
    (extended_named left [] ends h (record { of_imports = named_none; of_exports = named_none })) in
    let start : PlaceFollows (following s) no_spaces s = record {
      kinds = record { types = none_yet Alike (length s.types) s.types refl; core_types = none_yet AlikeCore (length s.core_types) s.core_types refl };
      same = none_yet Same (length s.types) s.types refl;
      functions = none_yet (OfType (following s).types) (length s.functions) s.functions refl;
      core_functions = none_yet (OfFunction (following s).functions) (length s.core_functions) s.core_functions refl;
    } in
    both_formed left _ [] ends h (subst (Formed (renamed (moved s right) (import_names (imports_of left)) (export_names (exports_of left))) [])
    (sym (extended_same left))
    (moved_formed right w ends left start refl refl k named))

pub joined_alone : (t : Tree) → joined t ends ≡ t
joined_alone t = ap tree_of (append-nil (parts_of t)) ∙ tree_same t
