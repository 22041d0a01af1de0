-- A component without several items has no more of anything than without one of them.
use Rattle.std.proofs.Common.{◌≡◌, ℕ, ◌+◌, ◌≤◌, Bool, true, false, List, [], ◌∷◌, ◌++◌, Option, Some, length, fold, length-append}
use Rattle.std.proofs.Common.{nat_lt, sym, refl, subst, arith}
use Rattle.std.proofs.lemmas.Option.{cond_some}
use Rattle.std.specs.List.{AllByRecursion, flat_map}
use Rattle.smith_input.proofs.Lists.{all_back, all_both, all_front}
use Rattle.smith_format.specs.declared.config.Config.{Config}
use Rattle.smith_syntax.specs.Entries.{CoreEntry, Entry, ImportEntry}
use Rattle.smith_tree.specs.Spaces.{Spaces, after_canon, after_export, after_import, after_part, no_spaces}
use Rattle.smith_tree.specs.Tree.{Canon, lift, lower, ExportEntry, Tree, Part, ends, first, own, parts_of}
use Rattle.smith_tree.specs.Tree.{anywhere, anywhere_in, canons_in, components_in, exports_in, exports_of, imported_components_in, imported_functions_in}
use Rattle.smith_tree.specs.Tree.{imported_instances_in, imported_modules_in, imports_in, imports_of, inside, modules_in}
use Rattle.smith_tree.specs.Tree as part
use Rattle.smith_edit.specs.Counts.{KeepsMaxima, KeepsOwnMaxima}
use Rattle.smith_edit.specs.Edited.{after_section, and_part, part_edited, tree_edited, within}
use Rattle.smith_edit.specs.Edits.{without, without_items}
use Rattle.smith_edit.specs.Items.{tree_items}
use Rattle.smith_edit.specs.Removal.{removes}
use Rattle.smith_edit.specs.Walk.{Walk, entered, new_scope}
use Rattle.smith_edit.specs.declared.walk.Removal.TheVariants.{Items}
use Rattle.smith_edit.proofs.Covered.{covered_here, covered_item}
use Rattle.smith_edit.proofs.CoveredRows.{FurtherWalk, ImportLeft, NoMoreOf, components_of, fewer_anywhere, further_entered, further_section}
use Rattle.smith_edit.proofs.CoveredRows.{further_within, instances_of, modules_of}
use Rattle.smith_edit.proofs.CoveredRows.{fewer_canons_left, fewer_cores_left, fewer_exports_left, fewer_imported_left, fewer_imports_left}
use Rattle.smith_edit.proofs.CoveredRows.{fewer_own, fewer_types_left, functions_in, not_further}
use Rattle.smith_edit.proofs.KeptInside.{AllKeep}
use Rattle.smith_edit.proofs.Perhaps.{more}

-- Types and core types, section by section: sections of other things add none.

abbrev pub types_in : Part → List Entry
types_in (part.types ts) = ts
types_in p = []

abbrev pub core_types_in : Part → List CoreEntry
core_types_in (part.core_types ts) = ts
core_types_in p = []

record SameTypes (a b : Spaces) : Type 0 where
  types : length a.types ≡ length b.types
  core_types : length a.core_types ≡ length b.core_types

canons_same : (cs : List Canon) (s : Spaces) → SameTypes (fold after_canon s cs) s
canons_same [] s = record { types = refl; core_types = refl }
canons_same (lift c t ∷ cs) s =
    let k = canons_same cs (after_canon s (lift c t)) in
    record { types = k.types; core_types = k.core_types }
canons_same (lower f ∷ cs) s =
    let k = canons_same cs (after_canon s (lower f)) in
    record { types = k.types; core_types = k.core_types }

imports_same : (is : List ImportEntry) (s : Spaces) → SameTypes (fold after_import s is) s
imports_same [] s = record { types = refl; core_types = refl }
imports_same (i ∷ is) s =
    let k = imports_same is (after_import s i) in
    record { types = k.types; core_types = k.core_types }

exports_same : (es : List ExportEntry) (s : Spaces) → SameTypes (fold after_export s es) s
exports_same [] s = record { types = refl; core_types = refl }
exports_same (e ∷ es) s =
    let k = exports_same es (after_export s e) in
    record { types = k.types; core_types = k.core_types }

-- what is at the end of these sections
abbrev at_end : Spaces → Tree → Spaces
at_end s t = fold after_part s (parts_of t)

record CountedTypes (t : Tree) (s : Spaces) : Type 0 where
  types : length (at_end s t).types ≡ length s.types + length (own types_in t)
  core_types : length (at_end s t).core_types ≡ length s.core_types + length (own core_types_in t)

by_same : (t : Tree) (s after : Spaces) → SameTypes after s → CountedTypes t after
    → (length (at_end after t).types ≡ length s.types + length (own types_in t))
    × (length (at_end after t).core_types ≡ length s.core_types + length (own core_types_in t))
by_same t s after k h = (omega (arith, h.types, k.types), omega (arith, h.core_types, k.core_types))

counted : (t : Tree) (s : Spaces) → CountedTypes t s
counted ends s = record { types = omega arith; core_types = omega arith }
counted (first (part.custom name contents) t) s = let k = counted t s in record { types = k.types; core_types = k.core_types }
counted (first (part.core_module text) t) s = let k = counted t s in record { types = k.types; core_types = k.core_types }
counted (first (part.component u) t) s = let k = counted t s in record { types = k.types; core_types = k.core_types }
counted (first (part.core_types ts) t) s =
    let k = counted t (record s { core_types = s.core_types ++ ts }) in
    record {
      types = k.types;
      core_types = omega (arith, k.core_types, length-append s.core_types ts, length-append ts (own core_types_in t));
    }
counted (first (part.types ts) t) s =
    let k = counted t (record s { types = s.types ++ ts }) in
    record {
      types = omega (arith, k.types, length-append s.types ts, length-append ts (own types_in t));
      core_types = k.core_types;
    }
counted (first (part.canons cs) t) s =
    let h = by_same t s (fold after_canon s cs) (canons_same cs s) (counted t (fold after_canon s cs)) in
    record { types = h.0; core_types = h.1 }
counted (first (part.imports is) t) s =
    let h = by_same t s (fold after_import s is) (imports_same is s) (counted t (fold after_import s is)) in
    record { types = h.0; core_types = h.1 }
counted (first (part.exports es) t) s =
    let h = by_same t s (fold after_export s es) (exports_same es s) (counted t (fold after_export s es)) in
    record { types = h.0; core_types = h.1 }

-- The other has no more by itself.
pub record NoMore (t u : Tree) : Type 0 where
  pub types : length (own types_in u) ≤ length (own types_in t)
  pub core_types : length (own core_types_in u) ≤ length (own core_types_in t)
  pub imports : length (own imports_in u) ≤ length (own imports_in t)
  pub functions : length (own imported_functions_in u) ≤ length (own imported_functions_in t)
  pub canons : length (own canons_in u) ≤ length (own canons_in t)
  pub exports : length (own exports_in u) ≤ length (own exports_in t)

pub kept : (config : Config) (t u : Tree) → NoMore t u → KeepsOwnMaxima config t → KeepsOwnMaxima config u
kept config t u no_more keeps =
    let before = counted t no_spaces in
    let after = counted u no_spaces in
    record {
      types = omega (arith, keeps.types, no_more.types, before.types, after.types);
      core_types = omega (arith, keeps.core_types, no_more.core_types, before.core_types, after.core_types);
      imports = omega (arith, keeps.imports, no_more.imports);
      functions = omega (arith, keeps.functions, no_more.functions, no_more.canons);
      exports = omega (arith, keeps.exports, no_more.exports);
    }

-- without several items

module _ (w v : Walk) (k : FurtherWalk w v) where
  types_left : (p : Part) → length (types_in (part_edited p v)) ≤ length (types_in (part_edited p w))
  types_left (part.types ts) = fewer_types_left w v k ts
  types_left p = omega arith

  core_types_left : (p : Part) → length (core_types_in (part_edited p v)) ≤ length (core_types_in (part_edited p w))
  core_types_left (part.core_types ts) = fewer_cores_left w v k ts
  core_types_left p = omega arith

  imports_left : (p : Part) → length (imports_in (part_edited p v)) ≤ length (imports_in (part_edited p w))
  imports_left (part.imports is) = fewer_imports_left w v k is
  imports_left p = omega arith

  functions_left : (p : Part) → length (imported_functions_in (part_edited p v)) ≤ length (imported_functions_in (part_edited p w))
  functions_left (part.imports is) = fewer_imported_left functions_in (λ i o p h. h.functions) w v k is
  functions_left p = omega arith

  canons_left : (p : Part) → length (canons_in (part_edited p v)) ≤ length (canons_in (part_edited p w))
  canons_left (part.canons fs) = fewer_canons_left w v k fs
  canons_left p = omega arith

  exports_left : (p : Part) → length (exports_in (part_edited p v)) ≤ length (exports_in (part_edited p w))
  exports_left (part.exports es) = fewer_exports_left w v k es
  exports_left p = omega arith

  modules_left : (p : Part) → length (modules_in (part_edited p v)) ≤ length (modules_in (part_edited p w))
  modules_left (part.core_module text) = omega arith
  modules_left p = omega arith

  components_left : (p : Part) → length (components_in (part_edited p v)) ≤ length (components_in (part_edited p w))
  components_left (part.component t) = omega arith
  components_left p = omega arith

  imported_left : (held : ImportEntry → List ℕ) → ((i : ImportEntry) (o p : Option ImportEntry) → ImportLeft i o p → NoMoreOf held o p) → (p : Part)
      → length (flat_map held (imports_in (part_edited p v))) ≤ length (flat_map held (imports_in (part_edited p w)))
  imported_left held each (part.imports is) = fewer_imported_left held each w v k is
  imported_left held each p = omega arith

no_more_left : (t : Tree) (w v : Walk) → FurtherWalk w v → NoMore (tree_edited t w) (tree_edited t v)
no_more_left t w v k = record {
  types = fewer_own types_in types_left t w v k;
  core_types = fewer_own core_types_in core_types_left t w v k;
  imports = fewer_own imports_in imports_left t w v k;
  functions = fewer_own imported_functions_in functions_left t w v k;
  canons = fewer_own canons_in canons_left t w v k;
  exports = fewer_own exports_in exports_left t w v k;
}

-- The other has no more core modules, components and instances at any depth.
pub record NoMoreAnywhere (t u : Tree) : Type 0 where
  pub modules : length (anywhere modules_in u) ≤ length (anywhere modules_in t)
  pub components : length (anywhere components_in u) ≤ length (anywhere components_in t)
  pub imported_modules : length (anywhere imported_modules_in u) ≤ length (anywhere imported_modules_in t)
  pub imported_components : length (anywhere imported_components_in u) ≤ length (anywhere imported_components_in t)
  pub imported_instances : length (anywhere imported_instances_in u) ≤ length (anywhere imported_instances_in t)

no_more_anywhere : (t : Tree) (w v : Walk) → FurtherWalk w v → NoMoreAnywhere (tree_edited t w) (tree_edited t v)
no_more_anywhere t w v k = record {
  modules = fewer_anywhere modules_in modules_left t w v k;
  components = fewer_anywhere components_in components_left t w v k;
  imported_modules = fewer_anywhere imported_modules_in (λ w v k. imported_left w v k modules_of (λ i o p h. h.modules)) t w v k;
  imported_components = fewer_anywhere imported_components_in (λ w v k. imported_left w v k components_of (λ i o p h. h.components)) t w v k;
  imported_instances = fewer_anywhere imported_instances_in (λ w v k. imported_left w v k instances_of (λ i o p h. h.instances)) t w v k;
}

pub all_kept : (config : Config) (t u : Tree) → NoMoreAnywhere t u
    → (AllByRecursion (KeepsOwnMaxima config) (inside t) → AllByRecursion (KeepsOwnMaxima config) (inside u))
    → NoMore t u → KeepsMaxima config t → KeepsMaxima config u
all_kept config t u no_more all own keeps = record {
  each = (kept config t u own keeps.each.0, all keeps.each.1);
  modules = omega (arith, keeps.modules, no_more.modules, no_more.imported_modules);
  components = omega (arith, keeps.components, no_more.components, no_more.imported_components);
  instances = omega (arith, keeps.instances, no_more.imported_instances);
}

module _ (config : Config) where
  -- the components of two sections, or of what is left of them, and of what follows
  both_keep : (a b : Bool) (before after : Part) (more less : Tree) → (a ≡ true → b ≡ true)
      → (AllKeep config (anywhere_in components_in before) → AllKeep config (anywhere_in components_in after))
      → (AllKeep config (inside more) → AllKeep config (inside less))
      → AllKeep config (inside (and_part a before more)) → AllKeep config (inside (and_part b after less))
  both_keep true true before after more less c here rest all = rest all
  both_keep true false before after more less c here rest all = let bad = c refl in absurd cc
  both_keep false true before after more less c here rest all =
      rest (all_back (KeepsOwnMaxima config) (anywhere_in components_in before) (inside more) all)
  both_keep false false before after more less c here rest all =
      all_both (KeepsOwnMaxima config) (anywhere_in components_in after) (inside less)
      (here (all_front (KeepsOwnMaxima config) (anywhere_in components_in before) (inside more) all))
      (rest (all_back (KeepsOwnMaxima config) (anywhere_in components_in before) (inside more) all))

  mutual
    inside_left : (t : Tree) (w v : Walk) → FurtherWalk w v → AllKeep config (inside (tree_edited t w)) → AllKeep config (inside (tree_edited t v))
    inside_left ends w v k all = tt
    inside_left (first p t) w v k all =
        both_keep (removes w.removal) (removes v.removal) (part_edited p (within w)) (part_edited p (within v)) (tree_edited t (after_section w p))
        (tree_edited t (after_section v p)) (covered_here w.removal v.removal k.covers)
        (inside_part_left p (within w) (within v) (further_within w v k))
        (inside_left t (after_section w p) (after_section v p) (further_section w v k p)) all

    inside_part_left : (p : Part) (w v : Walk) → FurtherWalk w v → AllKeep config (anywhere_in components_in (part_edited p w))
        → AllKeep config (anywhere_in components_in (part_edited p v))
    inside_part_left (part.component t) w v k all =
        let more = tree_edited t (entered w) in
        let less = tree_edited t (entered v) in
        let further = further_entered w v k in
        (kept config more less (no_more_left t (entered w) (entered v) further) all.0, inside_left t (entered w) (entered v) further all.1)
    inside_part_left p w v k all = tt

pub maxima_kept : (config : Config) (low k high : ℕ) (t less : Tree) → low ≤ k → k ≤ high → without k t ≡ Some less → KeepsMaxima config less
    → KeepsMaxima config (without_items low high t)
maxima_kept config low k high t less from to e keeps =
    let w : Walk = record { removal = Items k k; own = new_scope; outer = [] } in
    let v : Walk = record { removal = Items low high; own = new_scope; outer = [] } in
    let (there, is) = cond_some (nat_lt k (tree_items t)) (tree_edited t w) less e in
    let further : FurtherWalk w v = not_further w v (covered_item low k high from to) refl in
    all_kept config (tree_edited t w) (tree_edited t v) (no_more_anywhere t w v further) (inside_left config t w v further) (no_more_left t w v further)
    (subst (KeepsMaxima config) (sym is) keeps)
