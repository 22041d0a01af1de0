-- A component that fits limits and keeps maxima is within all limits.
use Rattle.std.proofs.Common.{ℕ, ◌≤◌, List, [], ◌∷◌, length, fold, sym, subst, arith}
use Rattle.std.specs.List.{AllByRecursion}
use Rattle.smith_format.specs.declared.config.Config.{Config}
use Rattle.smith_input.proofs.Lists.{all_both}
use Rattle.smith_syntax.specs.Entries.{Decl, Decls, Entry, component_type, core_type_decl, defined, function}
use Rattle.smith_syntax.specs.Entries.{instance_type, no_decls, then_decls, type_decl}
use Rattle.smith_syntax.specs.TypeLimits.{DeclLimits, DeclsLimits, EntryLimits}
use Rattle.smith_syntax.specs.CoreLimits.{CoreLimits}
use Rattle.smith_tree.specs.CoreTypeNeeds.{core_need}
use Rattle.smith_tree.specs.Limits.{Maxima, OwnLimits, OwnSizes, Sized, max_depth}
use Rattle.smith_tree.specs.Readable.{AreFinishable, IsFinishable}
use Rattle.smith_tree.specs.Spaces.{Spaces, after_part, no_spaces, spaces_of}
use Rattle.smith_tree.specs.Tree.{Part, Tree, canons, component, core_module, core_types, custom, ends, exports, first, imports, types}
use Rattle.smith_tree.specs.Tree.{anywhere_in, components_in, declared_depth, depth, depth_by_in, inside, most, names_in, no_depth, own, parts_of}
use Rattle.smith_tree.specs.TypeNeeds.{declaring, need}
use Rattle.smith_component.proofs.Tables.{all_weaker}
use Rattle.smith_component.proofs.Growth.{KeepsTypes, canons_keep, exports_keep, imports_keep}
use Rattle.smith_edit.specs.Counts.{KeepsMaxima, KeepsOwnMaxima}
use Rattle.smith_reduce.specs.Fits.{Fits, FitsCoreType, FitsDecl, FitsDecls, FitsEntry, FitsPart, FitsType}

-- what follows from two facts of each of a list
all_of_both : {A : Type 0} {P Q R : A → Type 0} → ((x : A) → P x → Q x → R x) → (xs : List A) → AllByRecursion P xs → AllByRecursion Q xs → AllByRecursion R xs
all_of_both f [] ps qs = tt
all_of_both f (x ∷ xs) ps qs = (f x ps.0 qs.0, all_of_both f xs ps.1 qs.1)

module _ (config : Config) where
  mutual
    entry_limits : (e : Entry) → FitsEntry config e → EntryLimits config e
    entry_limits (defined t) fits = tt
    entry_limits (function s) fits = tt
    entry_limits (component_type ds) fits = (fits.0, decls_limits ds fits.1)
    entry_limits (instance_type ds) fits = (fits.0, decls_limits ds fits.1)

    decl_limits : (d : Decl) → FitsDecl config d → DeclLimits config d
    decl_limits (core_type_decl t k) fits = fits.limits
    decl_limits (type_decl e) fits = entry_limits e fits
    decl_limits _ fits = tt

    decls_limits : (ds : Decls) → FitsDecls config ds → DeclsLimits config ds
    decls_limits no_decls fits = tt
    decls_limits (then_decls d ds) fits = (decl_limits d fits.0, decls_limits ds fits.1)

  -- The types in index spaces fit.
  record HaveFitting (s : Spaces) : Type 0 where
    types : AllByRecursion (FitsType config) s.types
    core_types : AllByRecursion (FitsCoreType config) s.core_types

  still : (s u : Spaces) → KeepsTypes s u → HaveFitting s → HaveFitting u
  still s u keeps have = record {
    types = subst (AllByRecursion (FitsType config)) (sym keeps.types) have.types;
    core_types = subst (AllByRecursion (FitsCoreType config)) (sym keeps.core_types) have.core_types;
  }

  after_fitting : (p : Part) (s : Spaces) → FitsPart config p → HaveFitting s → HaveFitting (after_part s p)
  after_fitting (core_types ts) s fits have = record { types = have.types; core_types = all_both (FitsCoreType config) s.core_types ts have.core_types fits }
  after_fitting (types ts) s fits have = record { types = all_both (FitsType config) s.types ts have.types fits; core_types = have.core_types }
  after_fitting (canons fs) s fits have = still s (after_part s (canons fs)) (canons_keep s fs) have
  after_fitting (imports is) s fits have = still s (after_part s (imports is)) (imports_keep s is) have
  after_fitting (exports es) s fits have = still s (after_part s (exports es)) (exports_keep s es) have
  after_fitting (custom name contents) s fits have = have
  after_fitting (core_module text) s fits have = have
  after_fitting (component t) s fits have = have

  fitting_from : (t : Tree) (s : Spaces) → Fits config t → HaveFitting s → HaveFitting (fold after_part s (parts_of t))
  fitting_from ends s fits have = have
  fitting_from (first p t) s fits have = fitting_from t (after_part s p) fits.1 (after_fitting p s fits.0 have)

  fitting : (t : Tree) → Fits config t → HaveFitting (spaces_of t)
  fitting t fits = fitting_from t no_spaces fits (record { types = tt; core_types = tt })

  -- names of custom sections

  abbrev AreNamesShort : List (List ℕ) → Type 0
  AreNamesShort names = AllByRecursion (λ name. length name ≤ 1000) names

  short_in : (p : Part) → FitsPart config p → AreNamesShort (names_in p)
  short_in (custom name contents) fits = (fits.1, tt)
  short_in (core_module text) fits = tt
  short_in (core_types ts) fits = tt
  short_in (component t) fits = tt
  short_in (types ts) fits = tt
  short_in (canons fs) fits = tt
  short_in (imports is) fits = tt
  short_in (exports es) fits = tt

  own_short : (t : Tree) → Fits config t → AreNamesShort (own names_in t)
  own_short ends fits = tt
  own_short (first p t) fits = all_both (λ name. length name ≤ 1000) (names_in p) (own names_in t) (short_in p fits.0) (own_short t fits.1)

  -- a component by itself

  own_limits : (t : Tree) → KeepsOwnMaxima config t → Fits config t → OwnLimits config t
  own_limits t keeps fits = record {
    types = keeps.types;
    core_types = keeps.core_types;
    imports = keeps.imports;
    functions = keeps.functions;
    exports = keeps.exports;
    within_types = all_weaker (FitsType config) (EntryLimits config) (λ e f. entry_limits e f.fits) (spaces_of t).types (fitting t fits).types;
    within_core_types =
        all_weaker (FitsCoreType config) (CoreLimits config) (λ e f. f.fits.limits) (spaces_of t).core_types (fitting t fits).core_types;
    names = own_short t fits;
  }

  own_sizes : (t : Tree) → Fits config t → OwnSizes config t
  own_sizes t fits = (
    all_weaker (FitsType config) (λ e. need e ≤ config.max_type_size) (λ e f. f.small) (spaces_of t).types (fitting t fits).types,
    all_weaker (FitsCoreType config) (λ e. core_need e ≤ config.max_type_size) (λ e f. f.small) (spaces_of t).core_types (fitting t fits).core_types,
  )

  -- the components inside it

  abbrev IsInner : Tree → Type 0
  IsInner t = IsFinishable config t × Fits config t

  mutual
    inner : (t : Tree) → Fits config t → AllByRecursion IsInner (inside t)
    inner ends fits = tt
    inner (first p t) fits = all_both IsInner (anywhere_in components_in p) (inside t) (inner_of p fits.0) (inner t fits.1)

    inner_of : (p : Part) → FitsPart config p → AllByRecursion IsInner (anywhere_in components_in p)
    inner_of (component t) fits = (fits, inner t fits.1)
    inner_of (custom name contents) fits = tt
    inner_of (core_module text) fits = tt
    inner_of (core_types ts) fits = tt
    inner_of (types ts) fits = tt
    inner_of (canons fs) fits = tt
    inner_of (imports is) fits = tt
    inner_of (exports es) fits = tt

  all_fit : (t : Tree) → Fits config t → AllByRecursion (Fits config) (t ∷ inside t)
  all_fit t fits = (fits, all_weaker IsInner (Fits config) (λ u both. both.1) (inside t) (inner t fits))

  pub all_finishable : (t : Tree) → IsFinishable config t → Fits config t → AreFinishable config t
  all_finishable t enough fits = (enough, all_weaker IsInner (IsFinishable config) (λ u both. both.0) (inside t) (inner t fits))

-- how deep components are
mutual
  no_deeper : (t : Tree) → depth t ≤ declared_depth t
  no_deeper ends = omega arith
  no_deeper (first p t) = grind (arith, no_deeper_in p, no_deeper t)

  no_deeper_in : (p : Part) → depth_by_in no_depth p ≤ depth_by_in (most declaring) p
  no_deeper_in (component t) = omega (arith, no_deeper t)
  no_deeper_in (custom name contents) = omega arith
  no_deeper_in (core_module text) = omega arith
  no_deeper_in (core_types ts) = omega arith
  no_deeper_in (types ts) = omega arith
  no_deeper_in (canons fs) = omega arith
  no_deeper_in (imports is) = omega arith
  no_deeper_in (exports es) = omega arith

pub fit_maxima : (config : Config) (t : Tree) → KeepsMaxima config t → Fits config t → declared_depth t ≤ max_depth config → Maxima config t
fit_maxima config t keeps fits low = record {
  each = all_of_both (own_limits config) (t ∷ inside t) keeps.each (all_fit config t fits);
  modules = keeps.modules;
  components = keeps.components;
  instances = keeps.instances;
  depth = omega (arith, no_deeper t, low);
  declared = low;
}

pub fit_sizes : (config : Config) (t : Tree) → Fits config t → Sized config t
fit_sizes config t fits = all_weaker (Fits config) (OwnSizes config) (own_sizes config) (t ∷ inside t) (all_fit config t fits)
