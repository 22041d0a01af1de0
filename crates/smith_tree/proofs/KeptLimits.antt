-- What a tree within the limits has in it is within the bounds of a validator.
use Rattle.std.proofs.Common.{◌≡◌, ℕ, ◌+◌, ◌≤◌, List, [], ◌∷◌, ◌++◌, length, fold, ap, refl, subst, arith, length-append}
use Rattle.std.specs.List.{AllByRecursion}
use Rattle.smith_format.specs.Consistency.{AreCountsValid}
use Rattle.smith_format.specs.declared.config.Config.{Config}
use Rattle.smith_input.proofs.Lists.{all_back, all_front}
use Rattle.smith_syntax.specs.CoreLimits.{CoreLimits}
use Rattle.smith_syntax.specs.Entries.{ImportEntry}
use Rattle.smith_syntax.specs.TypeLimits.{EntryLimits}
use Rattle.smith_tree.specs.Limits.{Maxima, OwnLimits}
use Rattle.smith_tree.specs.Spaces.{Spaces, after_canon, after_export, after_import, after_part, no_spaces}
use Rattle.smith_tree.specs.Tree.{Canon, lift, lower, ExportEntry, Tree, Part, ends, first, custom, core_module, core_types, component, types, canons}
use Rattle.smith_tree.specs.Tree.{imports, exports}
use Rattle.smith_tree.specs.Tree.{anywhere, anywhere_in, component_count, components_in, exports_of, function_count, inside, instance_count, module_count}
use Rattle.smith_tree.specs.Tree.{canons_in, exports_in, imported_components_in, imported_functions_in, imported_instances_in, imported_modules_in, modules_in}
use Rattle.smith_tree.specs.Tree.{own, parts_of}
use Rattle.smith_tree.specs.Counts.{Counts, no_counts}
use Rattle.smith_tree.proofs.Left.{Fits, KeptPart, KeptParts, left, part_left}

-- No more entries are left than were counted.
record FewLeft (t : Tree) (l : Counts) : Type 0 where
  functions : l.functions ≤ function_count t + length (exports_of t)
  exports : l.exports ≤ length (exports_of t)
  modules : l.modules ≤ module_count t
  components : l.components ≤ component_count t
  instances : l.instances ≤ instance_count t

few_left : (t : Tree) → FewLeft t (left t)
few_left ends = record { functions = omega arith; exports = omega arith; modules = omega arith; components = omega arith; instances = omega arith }
few_left (first p t) = few_part p (few_left t)
  where
    few_part : (p : Part) → FewLeft t (left t) → FewLeft (first p t) (part_left p (left t))
    few_part (custom name contents) k = grind arith
    few_part (core_module text) k = grind arith
    few_part (core_types ts) k = grind arith
    few_part (component u) k = grind (
      arith,
      length-append (anywhere modules_in u) (anywhere modules_in t),
      length-append (anywhere imported_modules_in u) (anywhere imported_modules_in t),
      length-append (inside u) (inside t),
      length-append (anywhere imported_components_in u) (anywhere imported_components_in t),
      length-append (anywhere imported_instances_in u) (anywhere imported_instances_in t),
    )
    few_part (types ts) k = grind arith
    few_part (canons cs) k = grind (arith, length-append cs (own canons_in t))
    few_part (imports is) k = grind (
      arith,
      length-append (imported_functions_in (imports is)) (own imported_functions_in t),
      length-append (imported_modules_in (imports is)) (anywhere imported_modules_in t),
      length-append (imported_components_in (imports is)) (anywhere imported_components_in t),
      length-append (imported_instances_in (imports is)) (anywhere imported_instances_in t),
    )
    few_part (exports es) k = grind (arith, length-append es (own exports_in t))

-- Types and core types: sections of other things add none.

record SameTypes (a b : Spaces) : Type 0 where
  types : a.types ≡ b.types
  core_types : a.core_types ≡ b.core_types

canon_types : (cs : List Canon) (s : Spaces) → SameTypes (fold after_canon s cs) s
canon_types [] s = record { types = refl; core_types = refl }
canon_types (lift c t ∷ cs) s =
    let k = canon_types cs (after_canon s (lift c t)) in
    record { types = k.types; core_types = k.core_types }
canon_types (lower f ∷ cs) s =
    let k = canon_types cs (after_canon s (lower f)) in
    record { types = k.types; core_types = k.core_types }

import_types : (is : List ImportEntry) (s : Spaces) → SameTypes (fold after_import s is) s
import_types [] s = record { types = refl; core_types = refl }
import_types (i ∷ is) s =
    let k = import_types is (after_import s i) in
    record { types = k.types; core_types = k.core_types }

export_types : (es : List ExportEntry) (s : Spaces) → SameTypes (fold after_export s es) s
export_types [] s = record { types = refl; core_types = refl }
export_types (e ∷ es) s =
    let k = export_types es (after_export s e) in
    record { types = k.types; core_types = k.core_types }

-- what is at the end of these parts
abbrev at_end : Spaces → Tree → Spaces
at_end s t = fold after_part s (parts_of t)

abbrev type_count : Spaces → ℕ
type_count s = length s.types + length s.core_types

same_count : (a b : Spaces) → SameTypes a b → type_count a ≡ type_count b
same_count a b k = omega (arith, ap length k.types, ap length k.core_types)

types_left : (t : Tree) (s : Spaces) → (left t).types + type_count s ≤ type_count (at_end s t)
types_left ends s = omega arith
types_left (first (custom name contents) t) s = types_left t s
types_left (first (core_module text) t) s = types_left t s
types_left (first (core_types ts) t) s =
    omega (arith, types_left t (record s { core_types = s.core_types ++ ts }), length-append s.core_types ts)
types_left (first (component u) t) s = types_left t s
types_left (first (types ts) t) s = omega (arith, types_left t (record s { types = s.types ++ ts }), length-append s.types ts)
types_left (first (canons cs) t) s =
    omega (arith, types_left t (fold after_canon s cs), same_count (fold after_canon s cs) s (canon_types cs s))
types_left (first (imports is) t) s =
    omega (arith, types_left t (fold after_import s is), same_count (fold after_import s is) s (import_types is s))
types_left (first (exports es) t) s =
    omega (arith, types_left t (fold after_export s es), same_count (fold after_export s es) s (export_types es s))

module _ (config : Config) (valid : AreCountsValid config) where
  -- the counts over all depths, and the limits of each inner component
  record Whole (t : Tree) : Type 0 where
    modules : module_count t ≤ 1000
    components : component_count t ≤ 1000
    instances : instance_count t ≤ 1000
    inner : AllByRecursion (OwnLimits config) (inside t)

  whole_rest : (p : Part) (t : Tree) → Whole (first p t) → Whole t
  whole_rest p t w = record {
    modules = omega (
      arith,
      w.modules,
      length-append (anywhere_in modules_in p) (anywhere modules_in t),
      length-append (anywhere_in imported_modules_in p) (anywhere imported_modules_in t),
    );
    components = omega (
      arith,
      w.components,
      length-append (anywhere_in components_in p) (inside t),
      length-append (anywhere_in imported_components_in p) (anywhere imported_components_in t),
    );
    instances = omega (arith, w.instances, length-append (anywhere_in imported_instances_in p) (anywhere imported_instances_in t));
    inner = all_back (OwnLimits config) (anywhere_in components_in p) (inside t) w.inner;
  }

  whole_inner : (u t : Tree) → Whole (first (component u) t) → Whole u
  whole_inner u t w = record {
    modules = omega (
      arith,
      w.modules,
      length-append (anywhere modules_in u) (anywhere modules_in t),
      length-append (anywhere imported_modules_in u) (anywhere imported_modules_in t),
    );
    components = omega (
      arith,
      w.components,
      length-append (inside u) (inside t),
      length-append (anywhere imported_components_in u) (anywhere imported_components_in t),
    );
    instances = omega (arith, w.instances, length-append (anywhere imported_instances_in u) (anywhere imported_instances_in t));
    inner = (all_front (OwnLimits config) (u ∷ inside u) (inside t) w.inner).1;
  }

  fits_left : (t : Tree) → OwnLimits config t → Whole t → Fits no_counts (left t)
  fits_left t o w = grind (arith, few_left, types_left)

  -- the parts, and what precedes them
  record Kept (t : Tree) (s : Spaces) : Type 0 where
    parts : KeptParts config t
    types : AllByRecursion (EntryLimits config) s.types
    core_types : AllByRecursion (CoreLimits config) s.core_types

  kept_same : (p : Part) (t : Tree) (a s : Spaces) → SameTypes a s → KeptPart config p → Kept t a → Kept (first p t) s
  kept_same p t a s same here k = record {
    parts = (here, k.parts);
    types = subst (AllByRecursion (EntryLimits config)) same.types k.types;
    core_types = subst (AllByRecursion (CoreLimits config)) same.core_types k.core_types;
  }

  kept : (t : Tree) (s : Spaces) → Whole t → AllByRecursion (EntryLimits config) (at_end s t).types
      → AllByRecursion (CoreLimits config) (at_end s t).core_types → Kept t s
  kept ends s w h c = record { parts = tt; types = h; core_types = c }
  kept (first (custom name contents) t) s w h c =
      kept_same (custom name contents) t s s (record { types = refl; core_types = refl }) tt (kept t s (whole_rest (custom name contents) t w) h c)
  kept (first (core_module text) t) s w h c =
      kept_same (core_module text) t s s (record { types = refl; core_types = refl }) tt (kept t s (whole_rest (core_module text) t w) h c)
  kept (first (core_types ts) t) s w h c =
      let k = kept t (record s { core_types = s.core_types ++ ts }) (whole_rest (core_types ts) t w) h c in
      record {
        parts = (all_back (CoreLimits config) s.core_types ts k.core_types, k.parts);
        types = k.types;
        core_types = all_front (CoreLimits config) s.core_types ts k.core_types;
      }
  kept (first (component u) t) s w h c =
      let o = (all_front (OwnLimits config) (u ∷ inside u) (inside t) w.inner).0 in
      let inner = whole_inner u t w in
      kept_same (component u) t s s (record { types = refl; core_types = refl })
      (fits_left u o inner, (kept u no_spaces inner o.within_types o.within_core_types).parts) (kept t s (whole_rest (component u) t w) h c)
  kept (first (types ts) t) s w h c =
      let k = kept t (record s { types = s.types ++ ts }) (whole_rest (types ts) t w) h c in
      record {
        parts = (all_back (EntryLimits config) s.types ts k.types, k.parts);
        types = all_front (EntryLimits config) s.types ts k.types;
        core_types = k.core_types;
      }
  kept (first (canons cs) t) s w h c =
      kept_same (canons cs) t (fold after_canon s cs) s (canon_types cs s) tt (kept t (fold after_canon s cs) (whole_rest (canons cs) t w) h c)
  kept (first (imports is) t) s w h c =
      kept_same (imports is) t (fold after_import s is) s (import_types is s) tt (kept t (fold after_import s is) (whole_rest (imports is) t w) h c)
  kept (first (exports es) t) s w h c =
      kept_same (exports es) t (fold after_export s es) s (export_types es s) tt (kept t (fold after_export s es) (whole_rest (exports es) t w) h c)

  whole_tree : (t : Tree) → Maxima config t → Whole t
  whole_tree t m = grind arith

  pub limits_fit : (t : Tree) → Maxima config t → Fits no_counts (left t)
  limits_fit t m = fits_left t m.each.0 (whole_tree t m)

  pub limits_kept : (t : Tree) → Maxima config t → KeptParts config t
  limits_kept t m = (kept t no_spaces (whole_tree t m) m.each.0.within_types m.each.0.within_core_types).parts
