-- What is kept of components: of one with one more part, and its scope by itself.
use Rattle.std.proofs.Common.{arith, ◌≡◌, List, [], ◌∷◌, ◌++◌, fold, refl, sym, ap, ◌∙◌, append-nil}
use Rattle.smith_format.specs.declared.config.Config.{Config}
use Rattle.smith_syntax.specs.Entries.{Entry, CoreEntry, ImportEntry}
use Rattle.smith_syntax.specs.Marked.{Marked, empty_marked, scope_in, scopes_in_marked, with_export}
use Rattle.smith_syntax.specs.Scope.{Scope}
use Rattle.smith_syntax.specs.declared.deftype.ComponentTypeRef.{ComponentTypeRef}
use Rattle.smith_tree.specs.Marking.{marked_after_part, marked_after_parts, marked_from, marked_in, marked_of, with_core_entry}
use Rattle.smith_tree.specs.Marking.{with_export_entries, with_exports_entry, with_import_entry, with_type_entry, exported_reference}
use Rattle.smith_tree.specs.Open.{scopes_from, scopes_in}
use Rattle.smith_tree.specs.Spaces.{Spaces, after_canon, after_export, after_import, after_part, no_spaces, spaces_of}
use Rattle.smith_tree.specs.Tree.{Canon, ExportEntry, lift, lower, Tree, Part, add, ends, first, core_types}
use Rattle.smith_tree.specs.Tree.{types, canons, imports, exports, parts_of}
use Rattle.smith_tree.specs.WellFormed.{scope_of}

-- One more part.
after_add : (t : Tree) (p : Part) (s : Spaces) (outer : List Marked) (own : Marked)
    → marked_after_parts (add t p) s outer own ≡ marked_after_part p (fold after_part s (parts_of t)) outer (marked_after_parts t s outer own)
after_add ends p s outer own = refl
after_add (first q t) p s outer own = after_add t p (after_part s q) outer (marked_after_part q s outer own)

pub marked_add : (config : Config) (outer : List Marked) (t : Tree) (p : Part)
    → marked_of config outer (add t p) ≡ marked_after_part p (spaces_of t) outer (marked_of config outer t)
marked_add config outer t p = after_add t p no_spaces outer (empty_marked config.must_validate)

-- The scope by itself, as the index spaces of types and core types have it.

abbrev of_spaces : Spaces → Scope
of_spaces s = record { types = s.types; core_types = s.core_types }

assoc : {A : Type 0} (xs : List A) (y : A) (ys : List A) → (xs ++ y ∷ []) ++ ys ≡ xs ++ y ∷ ys
assoc [] y ys = refl
assoc (x ∷ xs) y ys = ap (λ zs. x ∷ zs) (assoc xs y ys)

types_after : (outer : List Marked) (ts : List Entry) (own : Marked)
    → scope_in (fold (with_type_entry outer) own ts) ≡ record { types = own.types ++ ts; core_types = own.core_types }
types_after outer [] own = ap (λ xs. record { types = xs; core_types = own.core_types }) (sym (append-nil own.types))
types_after outer (t ∷ ts) own = types_after outer ts (with_type_entry outer own t)
    ∙ ap (λ xs. record { types = xs; core_types = own.core_types }) (assoc own.types t ts)

core_types_after : (ts : List CoreEntry) (own : Marked)
    → scope_in (fold with_core_entry own ts) ≡ record { types = own.types; core_types = own.core_types ++ ts }
core_types_after [] own = ap (λ xs. record { types = own.types; core_types = xs }) (sym (append-nil own.core_types))
core_types_after (t ∷ ts) own = core_types_after ts (with_core_entry own t)
    ∙ ap (λ xs. record { types = own.types; core_types = xs }) (assoc own.core_types t ts)

imports_after : (is : List ImportEntry) (own : Marked) → scope_in (fold with_import_entry own is) ≡ scope_in own
imports_after [] own = refl
imports_after (i ∷ is) own = imports_after is (with_import_entry own i)

exports_after : (es : List ExportEntry) (s : Spaces) (own : Marked) → scope_in (with_export_entries es s own) ≡ scope_in own
exports_after [] s own = refl
exports_after (e ∷ es) s own =
    exports_after es (after_export s e) (with_exports_entry own (exported_reference s.functions e)) ∙ references_after (exported_reference s.functions e) own
  where
    references_after : (rs : List ComponentTypeRef) (own : Marked) → scope_in (with_exports_entry own rs) ≡ scope_in own
    references_after [] own = refl
    references_after (r ∷ rs) own = references_after rs (with_export own r)

canons_keep : (fs : List Canon) (s : Spaces) → of_spaces (fold after_canon s fs) ≡ of_spaces s
canons_keep [] s = refl
canons_keep (lift c t ∷ fs) s = canons_keep fs (after_canon s (lift c t))
canons_keep (lower f ∷ fs) s = canons_keep fs (after_canon s (lower f))

imports_keep : (is : List ImportEntry) (s : Spaces) → of_spaces (fold after_import s is) ≡ of_spaces s
imports_keep [] s = refl
imports_keep (i ∷ is) s = imports_keep is (after_import s i)

exports_keep : (es : List ExportEntry) (s : Spaces) → of_spaces (fold after_export s es) ≡ of_spaces s
exports_keep [] s = refl
exports_keep (e ∷ es) s = exports_keep es (after_export s e)

pub scope_after_part : (p : Part) (s : Spaces) (outer : List Marked) (own : Marked) → scope_in own ≡ of_spaces s
    → scope_in (marked_after_part p s outer own) ≡ of_spaces (after_part s p)
scope_after_part (core_types ts) s outer own e = grind (arith, core_types_after)
scope_after_part (types ts) s outer own e = types_after outer ts own ∙ ap (λ (d : Scope). record { types = d.types ++ ts; core_types = d.core_types }) e
scope_after_part (canons fs) s outer own e = e ∙ sym (canons_keep fs s)
scope_after_part (imports is) s outer own e = imports_after is own ∙ e ∙ sym (imports_keep is s)
scope_after_part (exports es) s outer own e = exports_after es s own ∙ e ∙ sym (exports_keep es s)
scope_after_part _ s outer own e = e

scope_after_parts : (t : Tree) (s : Spaces) (outer : List Marked) (own : Marked) → scope_in own ≡ of_spaces s
    → scope_in (marked_after_parts t s outer own) ≡ of_spaces (fold after_part s (parts_of t))
scope_after_parts ends s outer own e = e
scope_after_parts (first p t) s outer own e =
    scope_after_parts t (after_part s p) outer (marked_after_part p s outer own) (scope_after_part p s outer own e)

-- the scope of a component, and the scopes of the open components

pub scope_marked : (config : Config) (outer : List Marked) (t : Tree) → scope_in (marked_of config outer t) ≡ scope_of t
scope_marked config outer t = scope_after_parts t no_spaces outer (empty_marked config.must_validate) refl

scopes_marked_from : (config : Config) (us : List Tree) (marked : List Marked) (outer : List Scope) → scopes_in_marked marked ≡ outer
    → scopes_in_marked (marked_from config us marked) ≡ scopes_from us outer
scopes_marked_from config [] marked outer e = e
scopes_marked_from config (u ∷ us) marked outer e =
    scopes_marked_from config us (marked_of config marked u ∷ marked) (scope_of u ∷ outer)
    (ap (λ s. s ∷ scopes_in_marked marked) (scope_marked config marked u) ∙ ap (λ ss. scope_of u ∷ ss) e)

pub scopes_marked : (config : Config) (us : List Tree) → scopes_in_marked (marked_in config us) ≡ scopes_in us
scopes_marked config us = scopes_marked_from config us [] [] refl

-- whether marks are kept

types_keep : (outer : List Marked) (ts : List Entry) (own : Marked) → (fold (with_type_entry outer) own ts).keeps ≡ own.keeps
types_keep outer [] own = refl
types_keep outer (t ∷ ts) own = types_keep outer ts (with_type_entry outer own t)

core_types_keep : (ts : List CoreEntry) (own : Marked) → (fold with_core_entry own ts).keeps ≡ own.keeps
core_types_keep [] own = refl
core_types_keep (t ∷ ts) own = core_types_keep ts (with_core_entry own t)

import_entries_keep : (is : List ImportEntry) (own : Marked) → (fold with_import_entry own is).keeps ≡ own.keeps
import_entries_keep [] own = refl
import_entries_keep (i ∷ is) own = import_entries_keep is (with_import_entry own i)

pub references_keep : (rs : List ComponentTypeRef) (own : Marked) → (with_exports_entry own rs).keeps ≡ own.keeps
references_keep [] own = refl
references_keep (r ∷ rs) own = references_keep rs (with_export own r)

export_entries_keep : (es : List ExportEntry) (s : Spaces) (own : Marked) → (with_export_entries es s own).keeps ≡ own.keeps
export_entries_keep [] s own = refl
export_entries_keep (e ∷ es) s own =
    export_entries_keep es (after_export s e) (with_exports_entry own (exported_reference s.functions e))
    ∙ references_keep (exported_reference s.functions e) own

part_keeps : (p : Part) (s : Spaces) (outer : List Marked) (own : Marked) → (marked_after_part p s outer own).keeps ≡ own.keeps
part_keeps (core_types ts) s outer own = core_types_keep ts own
part_keeps (types ts) s outer own = types_keep outer ts own
part_keeps (imports is) s outer own = import_entries_keep is own
part_keeps (exports es) s outer own = export_entries_keep es s own
part_keeps _ s outer own = refl

parts_keep : (t : Tree) (s : Spaces) (outer : List Marked) (own : Marked) → (marked_after_parts t s outer own).keeps ≡ own.keeps
parts_keep ends s outer own = refl
parts_keep (first p t) s outer own = parts_keep t (after_part s p) outer (marked_after_part p s outer own) ∙ part_keeps p s outer own

pub marked_keeps : (config : Config) (outer : List Marked) (t : Tree) → (marked_of config outer t).keeps ≡ config.must_validate
marked_keeps config outer t = parts_keep t no_spaces outer (empty_marked config.must_validate)
