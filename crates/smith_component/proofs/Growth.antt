-- How index spaces grow: what is in them stays where it is.
use Rattle.std.proofs.Common.{◌≡◌, ℕ, ◌+◌, ◌≤◌, List, [], ◌∷◌, ◌++◌, fold, length, refl, sym, ap, ◌∙◌, subst, arith, append-nil, append_assoc, length-append}
use Rattle.std.specs.List.{AllByRecursion, flat_map}
use Rattle.std.specs.Option.{option_to_list}
use Rattle.std.specs.Prelude.{slice_get}
use Rattle.std.proofs.lemmas.List.Sums.{fold-append}
use Rattle.smith_scopes.proofs.Plain.{all_both}
use Rattle.smith_syntax.specs.Entries.{Entry, ImportEntry}
use Rattle.smith_syntax.specs.Scope.{Scope}
use Rattle.smith_tree.specs.Spaces.{Spaces, no_spaces, after_canon, after_export, after_import, after_part, spaces_of, types_of}
use Rattle.smith_component.specs.Tables.{functions_at}
use Rattle.smith_tree.specs.Tree.{Canon, lift, lower, Tree, ends, first, Part, custom, core_module, core_types, component, types, canons, imports, exports}
use Rattle.smith_tree.specs.Tree.{ExportEntry, add, canons_in, exports_in, exports_of, function_count, function_of, imported_functions_in, own, parts_of}
use Rattle.smith_tree.specs.WellFormed.{scope_of}
use Rattle.smith_component.proofs.Tree.{functions_in}
use Rattle.smith_input.proofs.Lists.{one_at_most}

behind-add : (s : Spaces) (t : Tree) (p : Part) → fold after_part s (parts_of (add t p)) ≡ after_part (fold after_part s (parts_of t)) p
behind-add s ends p = refl
behind-add s (first q t) p = behind-add (after_part s q) t p

-- The spaces of a component with one more part are the spaces after that part.
pub spaces-add : (t : Tree) (p : Part) → spaces_of (add t p) ≡ after_part (spaces_of t) p
spaces-add t p = behind-add no_spaces t p

-- one more canonical function in its section
pub spaces_canon : (t : Tree) (cs : List Canon) (c : Canon) → spaces_of (add t (canons (cs ++ c ∷ []))) ≡ after_canon (spaces_of (add t (canons cs))) c
spaces_canon t cs c = grind (arith, spaces-add, fold-append)

-- one more import
pub spaces_import : (t : Tree) (is : List ImportEntry) (i : ImportEntry)
    → spaces_of (add t (imports (is ++ i ∷ []))) ≡ after_import (spaces_of (add t (imports is))) i
spaces_import t is i = grind (arith, spaces-add, fold-append)

-- one more export
pub spaces_export : (t : Tree) (es : List ExportEntry) (e : ExportEntry)
    → spaces_of (add t (exports (es ++ e ∷ []))) ≡ after_export (spaces_of (add t (exports es))) e
spaces_export t es e = grind (arith, spaces-add, fold-append)

-- how many functions there are

pub functions_after : (s : Spaces) (c : Canon) → functions_at (after_canon s c) ≡ functions_at s + 1
functions_after s (lift c t) = omega (arith, length-append s.functions (t ∷ []))
functions_after s (lower f) = omega (arith, length-append s.core_functions (f ∷ []))

pub functions_behind : (s : Spaces) (cs : List Canon) → functions_at (fold after_canon s cs) ≡ functions_at s + length cs
functions_behind s [] = omega arith
functions_behind s (c ∷ cs) = omega (arith, functions_behind (after_canon s c) cs, functions_after s c)

functions_imported : (s : Spaces) (is : List ImportEntry)
    → functions_at (fold after_import s is) ≡ functions_at s + length (flat_map (λ (i : ImportEntry). function_of i.to) is)
functions_imported s [] = omega arith
functions_imported s (i ∷ is) = omega (
  arith,
  functions_imported (after_import s i) is,
  length-append s.functions (function_of i.to),
  length-append (function_of i.to) (flat_map (λ (i : ImportEntry). function_of i.to) is),
)

-- Between two places that many functions are counted, and that many exported.
pub record Counts (s u : Spaces) (counted exported : ℕ) : Type 0 where
  pub least : functions_at s + counted ≤ functions_at u
  pub most : functions_at u ≤ functions_at s + (counted + exported)

functions_exported : (s : Spaces) (es : List ExportEntry) → Counts s (fold after_export s es) 0 (length es)
functions_exported s [] = record { least = omega arith; most = omega arith }
functions_exported s (e ∷ es) =
    let more = functions_exported (after_export s e) es in
    let one = one_at_most (slice_get s.functions e.func) in
    let grown = length-append s.functions (option_to_list (slice_get s.functions e.func)) in
    record { least = omega (arith, more.least, grown); most = omega (arith, more.most, grown, one) }

part_counts : (s : Spaces) (p : Part) → Counts s (after_part s p) (functions_in p) (length (exports_in p))
part_counts s (canons fs) = record { least = omega (arith, functions_behind s fs); most = omega (arith, functions_behind s fs) }
part_counts s (imports is) = record { least = omega (arith, functions_imported s is); most = omega (arith, functions_imported s is) }
part_counts s (exports es) =
    let c = functions_exported s es in
    record { least = omega (arith, c.least); most = omega (arith, c.most) }
part_counts s _ = record { least = omega arith; most = omega arith }

parts_count : (s : Spaces) (t : Tree) → Counts s (fold after_part s (parts_of t)) (function_count t) (length (exports_of t))
parts_count s ends = record { least = omega arith; most = omega arith }
parts_count s (first p t) =
    let one = part_counts s p in
    let more = parts_count (after_part s p) t in
    let imported = length-append (imported_functions_in p) (own imported_functions_in t) in
    let canonical = length-append (canons_in p) (own canons_in t) in
    let exported = length-append (exports_in p) (exports_of t) in
    record {
      least = omega (arith, one.least, more.least, imported, canonical);
      most = omega (arith, one.most, more.most, imported, canonical, exported);
    }

-- All functions that are counted are in the index spaces, and beside them only the exported ones.
pub functions_counted : (t : Tree) → Counts no_spaces (spaces_of t) (function_count t) (length (exports_of t))
functions_counted t = parts_count no_spaces t

-- The types and the core types stay as they are.
pub record KeepsTypes (s u : Spaces) : Type 0 where
  pub types : u.types ≡ s.types
  pub core_types : u.core_types ≡ s.core_types

-- what each item leaves as it is, all do
fold_keeps : {A X : Type 0} (of : Spaces → X) (after : Spaces → A → Spaces) → ((s : Spaces) (x : A) → of (after s x) ≡ of s)
    → (s : Spaces) (xs : List A) → of (fold after s xs) ≡ of s
fold_keeps of after one s [] = refl
fold_keeps of after one s (x ∷ xs) = fold_keeps of after one (after s x) xs ∙ one s x

pub canon_keeps : (s : Spaces) (c : Canon) → KeepsTypes s (after_canon s c)
canon_keeps s (lift c t) = record { types = refl; core_types = refl }
canon_keeps s (lower f) = record { types = refl; core_types = refl }

pub canons_keep : (s : Spaces) (cs : List Canon) → KeepsTypes s (fold after_canon s cs)
canons_keep s cs = record {
  types = fold_keeps (λ z. z.types) after_canon (λ z c. (canon_keeps z c).types) s cs;
  core_types = fold_keeps (λ z. z.core_types) after_canon (λ z c. (canon_keeps z c).core_types) s cs;
}

pub imports_keep : (s : Spaces) (is : List ImportEntry) → KeepsTypes s (fold after_import s is)
imports_keep s is = record {
  types = fold_keeps (λ z. z.types) after_import (λ z i. refl) s is;
  core_types = fold_keeps (λ z. z.core_types) after_import (λ z i. refl) s is;
}

pub exports_keep : (s : Spaces) (es : List ExportEntry) → KeepsTypes s (fold after_export s es)
exports_keep s es = record {
  types = fold_keeps (λ z. z.types) after_export (λ z e. refl) s es;
  core_types = fold_keeps (λ z. z.core_types) after_export (λ z e. refl) s es;
}

-- The scope of a component, when it grows.

abbrev pub scope_at : Spaces → Scope
scope_at s = record { types = s.types; core_types = s.core_types }

pub scope-add : (t : Tree) (p : Part) → scope_of (add t p) ≡ scope_at (after_part (spaces_of t) p)
scope-add t p = ap scope_at (spaces-add t p)

pub scope_bare : (t : Tree) (p : Part) → KeepsTypes (spaces_of t) (after_part (spaces_of t) p) → scope_of (add t p) ≡ scope_of t
scope_bare t p keep = grind (arith, types, core_types, scope-add)

-- A fact of all types stays if the types of a type section have it.
pub types_past : (P : Entry → Type 0) (t : Tree) (p : Part) → AllByRecursion P (types_of t)
    → ((ts : List Entry) → p ≡ types ts → AllByRecursion P ts) → AllByRecursion P (types_of (add t p))
types_past P t p h new = subst (λ (s : Spaces). AllByRecursion P s.types) (sym (spaces-add t p)) (by_part p new)
  where
    by_part : (q : Part) → ((ts : List Entry) → q ≡ types ts → AllByRecursion P ts) → AllByRecursion P (after_part (spaces_of t) q).types
    by_part (custom n c) more = h
    by_part (core_module m) more = h
    by_part (core_types ts) more = h
    by_part (component u) more = h
    by_part (types ts) more = all_both P (types_of t) ts h (more ts refl)
    by_part (canons fs) more = subst (AllByRecursion P) (sym (canons_keep (spaces_of t) fs).types) h
    by_part (imports is) more = subst (AllByRecursion P) (sym (imports_keep (spaces_of t) is).types) h
    by_part (exports es) more = subst (AllByRecursion P) (sym (exports_keep (spaces_of t) es).types) h

-- Some list is the beginning of another.

abbrev pub IsPrefix : {A : Type 0} → List A → List A → Type 0
IsPrefix {A} xs ys = (more : List A) × (ys ≡ xs ++ more)

prefix_same : {A : Type 0} (xs : List A) → IsPrefix xs xs
prefix_same xs = ([], sym (append-nil xs))

prefix_then : {A : Type 0} (xs ys zs : List A) → IsPrefix xs ys → IsPrefix ys zs → IsPrefix xs zs
prefix_then xs ys zs (a, e) (b, f) = (a ++ b, f ∙ (ap (λ l. l ++ b) e ∙ append_assoc xs a b))

-- All that is there stays where it is, and more may follow it.
pub record Extends (s u : Spaces) : Type 0 where
  pub types : IsPrefix s.types u.types
  pub core_types : IsPrefix s.core_types u.core_types
  pub functions : IsPrefix s.functions u.functions
  pub core_functions : IsPrefix s.core_functions u.core_functions

extends_same : (s : Spaces) → Extends s s
extends_same s = record {
  types = prefix_same s.types;
  core_types = prefix_same s.core_types;
  functions = prefix_same s.functions;
  core_functions = prefix_same s.core_functions;
}

extends_then : (s u v : Spaces) → Extends s u → Extends u v → Extends s v
extends_then s u v a b = record {
  types = prefix_then s.types u.types v.types a.types b.types;
  core_types = prefix_then s.core_types u.core_types v.core_types a.core_types b.core_types;
  functions = prefix_then s.functions u.functions v.functions a.functions b.functions;
  core_functions = prefix_then s.core_functions u.core_functions v.core_functions a.core_functions b.core_functions;
}

-- One of the spaces alone has more.

more_functions : (s : Spaces) (fs : List ℕ)
    → Extends s (record { types = s.types; core_types = s.core_types; functions = s.functions ++ fs; core_functions = s.core_functions })
more_functions s fs = record {
  types = prefix_same s.types;
  core_types = prefix_same s.core_types;
  functions = (fs, refl);
  core_functions = prefix_same s.core_functions;
}

pub extends_canon : (s : Spaces) (c : Canon) → Extends s (after_canon s c)
extends_canon s (lift c t) = more_functions s (t ∷ [])
extends_canon s (lower f) = record {
  types = prefix_same s.types;
  core_types = prefix_same s.core_types;
  functions = prefix_same s.functions;
  core_functions = (f ∷ [], refl);
}

extends_fold : {A : Type 0} (after : Spaces → A → Spaces) → ((s : Spaces) (x : A) → Extends s (after s x)) → (s : Spaces) (xs : List A)
    → Extends s (fold after s xs)
extends_fold after one s [] = extends_same s
extends_fold after one s (x ∷ xs) = extends_then s (after s x) (fold after (after s x) xs) (one s x) (extends_fold after one (after s x) xs)

pub extends_part : (s : Spaces) (p : Part) → Extends s (after_part s p)
extends_part s (custom name contents) = extends_same s
extends_part s (core_module text) = extends_same s
extends_part s (core_types ts) = record {
  types = prefix_same s.types;
  core_types = (ts, refl);
  functions = prefix_same s.functions;
  core_functions = prefix_same s.core_functions;
}
extends_part s (component t) = extends_same s
extends_part s (types ts) = record {
  types = (ts, refl);
  core_types = prefix_same s.core_types;
  functions = prefix_same s.functions;
  core_functions = prefix_same s.core_functions;
}
extends_part s (canons fs) = extends_fold after_canon extends_canon s fs
extends_part s (imports is) = extends_fold after_import (λ u i. more_functions u (function_of i.to)) s is
extends_part s (exports es) = extends_fold after_export (λ u e. more_functions u (option_to_list (slice_get u.functions e.func))) s es

pub extends-add : (t : Tree) (p : Part) → Extends (spaces_of t) (spaces_of (add t p))
extends-add t p = subst (Extends (spaces_of t)) (sym (spaces-add t p)) (extends_part (spaces_of t) p)

pub prefix_longer : {A : Type 0} (xs ys : List A) → IsPrefix xs ys → length xs ≤ length ys
prefix_longer xs ys (more, e) = omega (arith, ap length e, length-append xs more)
