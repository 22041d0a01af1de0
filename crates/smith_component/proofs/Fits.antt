-- A component keeps the limits and the sizes that bind it alone when it grows by a part that fits.
use Rattle.std.proofs.Common.{◌≡◌, ℕ, ◌+◌, ◌≤◌, List, [], length, arith, ap, refl, sym, subst}
use Rattle.std.specs.List.{AllByRecursion}
use Rattle.smith_format.specs.declared.config.Config.{Config}
use Rattle.smith_syntax.specs.CoreLimits.{CoreLimits}
use Rattle.smith_syntax.specs.TypeLimits.{EntryLimits}
use Rattle.smith_scopes.proofs.Plain.{all_both, all_front}
use Rattle.smith_tree.specs.Limits.{SmallTypes, SmallCoreTypes, OwnSizes, OwnLimits}
use Rattle.smith_tree.specs.Spaces.{Spaces, after_part, core_types_of, spaces_of, types_of}
use Rattle.smith_tree.specs.Tree.{Tree, Part, component, add, own, names_in, imports_in, imports_of, canons_in, exports_in, exports_of}
use Rattle.smith_tree.specs.Tree.{function_count}
use Rattle.smith_component.proofs.Growth.{Extends, KeepsTypes, extends-add, prefix_longer, spaces-add}
use Rattle.smith_component.proofs.Tree.{Swaps, function_count-add, functions_in, length-own-add, no_functions_in, own-add}

-- names that are short enough
abbrev pub Short : List (List ℕ) → Type 0
Short names = AllByRecursion (λ name. length name ≤ 1000) names

-- What the limits of a component say of its index spaces.
pub record Fits (config : Config) (s : Spaces) : Type 0 where
  pub types : length s.types ≤ config.max_types
  pub core_types : length s.core_types ≤ config.max_types
  pub within_types : AllByRecursion (EntryLimits config) s.types
  pub within_core_types : AllByRecursion (CoreLimits config) s.core_types

pub fits_of : (config : Config) (t : Tree) → OwnLimits config t → Fits config (spaces_of t)
fits_of config t o =
    record { types = o.types; core_types = o.core_types; within_types = o.within_types; within_core_types = o.within_core_types }

-- What is after the last part of a component fits.
pub fits_behind : (config : Config) (t : Tree) (p : Part) → OwnLimits config (add t p) → Fits config (after_part (spaces_of t) p)
fits_behind config t p o = subst (Fits config) (spaces-add t p) (fits_of config (add t p) o)

-- What fits still does if the types stay as they are.
pub fits_kept : (config : Config) (s u : Spaces) → KeepsTypes s u → Fits config s → Fits config u
fits_kept config s u keep f = record {
  types = omega (arith, f.types, ap length keep.types);
  core_types = omega (arith, f.core_types, ap length keep.core_types);
  within_types = subst (AllByRecursion (EntryLimits config)) (sym keep.types) f.within_types;
  within_core_types = subst (AllByRecursion (CoreLimits config)) (sym keep.core_types) f.within_core_types;
}

-- There is room for what a part has that is counted in its component.
pub record HasRoom (config : Config) (t : Tree) (p : Part) : Type 0 where
  pub imports : length (imports_of t) + length (imports_in p) ≤ config.max_imports
  pub functions : function_count t + functions_in p ≤ config.max_funcs
  pub exports : length (exports_of t) + length (exports_in p) ≤ config.max_exports

-- what a part has that counts nothing
pub no_counted : (config : Config) (t : Tree) (p : Part) → imports_in p ≡ [] → canons_in p ≡ [] → exports_in p ≡ [] → OwnLimits config t → HasRoom config t p
no_counted config t p is fs es o = record {
  imports = omega (arith, o.imports, ap length is);
  functions = omega (arith, o.functions, no_functions_in p is fs);
  exports = omega (arith, o.exports, ap length es);
}

-- A component keeps its own limits when it grows by a part that fits.
pub own_limits-add : (config : Config) (t : Tree) (p : Part) → OwnLimits config t → Fits config (after_part (spaces_of t) p) → HasRoom config t p
    → Short (names_in p) → OwnLimits config (add t p)
own_limits-add config t p o fits room ns =
    let f : Fits config (spaces_of (add t p)) = subst (Fits config) (sym (spaces-add t p)) fits in
    record {
      types = f.types;
      core_types = f.core_types;
      imports = omega (arith, room.imports, length-own-add imports_in t p);
      functions = omega (arith, room.functions, function_count-add t p);
      exports = omega (arith, room.exports, length-own-add exports_in t p);
      within_types = f.within_types;
      within_core_types = f.within_core_types;
      names = subst Short (sym (own-add names_in t p)) (all_both _ (own names_in t) (names_in p) o.names ns);
    }

-- It kept them before it grew.
pub own_limits-front : (config : Config) (t : Tree) (p : Part) → OwnLimits config (add t p) → OwnLimits config t
own_limits-front config t p o =
    let e : Extends (spaces_of t) (spaces_of (add t p)) = extends-add t p in
    record {
      types = omega (arith, o.types, prefix_longer (types_of t) (types_of (add t p)) e.types);
      core_types = omega (arith, o.core_types, prefix_longer (core_types_of t) (core_types_of (add t p)) e.core_types);
      imports = omega (arith, o.imports, length-own-add imports_in t p);
      functions = omega (arith, o.functions, function_count-add t p);
      exports = omega (arith, o.exports, length-own-add exports_in t p);
      within_types = all_front _ (types_of t) e.types.0 (subst (AllByRecursion (EntryLimits config)) e.types.1 o.within_types);
      within_core_types = all_front _ (core_types_of t) e.core_types.0 (subst (AllByRecursion (CoreLimits config)) e.core_types.1 o.within_core_types);
      names = all_front _ (own names_in t) (names_in p) (subst Short (own-add names_in t p) o.names);
    }

pub own_limits-component : (config : Config) (t u : Tree) → OwnLimits config t → OwnLimits config (add t (component u))
own_limits-component config t u o = own_limits-add config t (component u) o (fits_of config t o) (no_counted config t (component u) refl refl refl o) tt

pub own_limits_swap : (config : Config) → Swaps (OwnLimits config)
own_limits_swap config u a b o = own_limits-component config u b (own_limits-front config u (component a) o)

-- Sizes, when a component grows.

-- no type of these spaces is larger than its fuel was
abbrev pub IsSized : Config → Spaces → Type 0
IsSized config s = SmallTypes config s.types × SmallCoreTypes config s.core_types

pub own_sizes-add : (config : Config) (t : Tree) (p : Part) → IsSized config (after_part (spaces_of t) p) → OwnSizes config (add t p)
own_sizes-add config t p small = subst (IsSized config) (sym (spaces-add t p)) small

-- The types stay as they are.
pub sizes_keep : (config : Config) (s u : Spaces) → KeepsTypes s u → IsSized config s → IsSized config u
sizes_keep config s u keep small = (subst (SmallTypes config) (sym keep.types) small.0, subst (SmallCoreTypes config) (sym keep.core_types) small.1)

pub own_sizes_swap : (config : Config) → Swaps (OwnSizes config)
own_sizes_swap config u a b o = own_sizes-add config u (component b) (subst (IsSized config) (spaces-add u (component a)) o)

-- It kept them before it grew.
pub own_sizes_front : (config : Config) (t : Tree) (p : Part) → OwnSizes config (add t p) → OwnSizes config t
own_sizes_front config t p o =
    let e : Extends (spaces_of t) (spaces_of (add t p)) = extends-add t p in (
      all_front _ (types_of t) e.types.0 (subst (SmallTypes config) e.types.1 o.0),
      all_front _ (core_types_of t) e.core_types.0 (subst (SmallCoreTypes config) e.core_types.1 o.1),
    )
