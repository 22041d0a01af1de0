-- What holds before a place in a component, and so after an entry there.
use Rattle.std.proofs.Common.{◌≡◌, ℕ, suc, ◌+◌, ◌<◌, ◌≤◌, Bool, true, List, [], ◌∷◌, ◌++◌, refl, sym, subst, arith}
use Rattle.std.specs.List.{AllByRecursion}
use Rattle.smith_format.specs.declared.config.Config.{Config}
use Rattle.smith_input.proofs.Lists.{all_both}
use Rattle.smith_syntax.specs.CoreLimits.{CoreLimits}
use Rattle.smith_syntax.specs.Entries.{CoreEntry, Entry}
use Rattle.smith_syntax.specs.Marked.{Marked, empty_marked, mark}
use Rattle.smith_syntax.specs.Scope.{Scope}
use Rattle.smith_syntax.specs.Sizes.{size_bound}
use Rattle.smith_syntax.specs.TypeLimits.{EntryLimits}
use Rattle.smith_syntax.specs.Usable.{OfferedEntry}
use Rattle.smith_syntax.specs.WellFormed.{FormedEntry}
use Rattle.smith_tree.specs.Marking.{with_core_entry, with_type_entry}
use Rattle.smith_tree.specs.Spaces.{Spaces, after_canon}
use Rattle.smith_tree.specs.Tree.{Canon, lift, lower}
use Rattle.smith_tree.specs.WellFormed.{FormedCanon}
use Rattle.smith_tree.specs.Bodies.{Body, IsSmall, core_facts, empty_body, facts, with_core_facts, with_facts}
use Rattle.smith_tree.specs.Counts.{Counts, no_counts, with_component}
use Rattle.smith_tree.specs.Counts.{with_module, with_type_count}
use Rattle.smith_tree.specs.Demands.{everything}
use Rattle.smith_tree.specs.Facts.{FactScope}
use Rattle.smith_tree.specs.Validates.{after_canon as body_after_canon, names_of}
use Rattle.smith_tree.proofs.Functions.{FitFunctions, IsFreeAt, fits_function, free_lifted, free_more, functions_more}
use Rattle.smith_tree.proofs.Left.{Fits}
use Rattle.smith_tree.proofs.TiedBodies.{TiedBody, tied_empty, tied_types}
use Rattle.smith_tree.proofs.TiedEntries.{tied_core, tied_entry}
use Rattle.smith_tree.proofs.Ties.{TiedScopes}

-- The types and functions are those before the place. All imports except imports of functions are counted by what they
-- are of, and each function has a size.
pub record Stands (config : Config) (es : List Entry) (fs : List ℕ) (m : Marked) (b : Body) (l : Counts) : Type 0 where
  pub tied : TiedBody config m b
  pub small : b.size < size_bound
  pub counts : Fits b.counts l
  pub imports : b.counts.imports ≤ 1000000
  pub sized : b.counts.imports + 1 ≤ b.size + b.counts.modules + b.counts.components + b.counts.instances
  pub types : FitFunctions es b.own.types
  pub functions : AllByRecursion (IsFreeAt b.own.types) fs

module _ (config : Config) where
  pub stands_empty : (keeps : Bool) (l : Counts) → keeps ≡ true → Fits no_counts l → Stands config [] [] (empty_marked keeps) empty_body l
  stands_empty keeps l e h = record {
    tied = tied_empty config keeps e;
    small = omega arith;
    counts = h;
    imports = omega arith;
    sized = omega arith;
    types = tt;
    functions = tt;
  }

  module _ {es : List Entry} {fs : List ℕ} (m : Marked) (b : Body) (l : Counts) (s : Stands config es fs m b l) where
    pub stands_small : IsSmall everything b
    stands_small = (
      s.small,
      grind arith,
    )

    -- the same with as many left
    pub stands_left : (other : Counts) → Fits b.counts other → Stands config es fs m b other
    stands_left other h = grind arith

  tied_counted : (m : Marked) (b : Body) (c : Counts) → TiedBody config m b → TiedBody config m (record b { counts = c })
  tied_counted m b c t = record { keeps = t.keeps; own = t.own; size = t.size; refers = t.refers; exported = t.exported }

  -- Core modules and components.

  pub stands_module : (es : List Entry) (fs : List ℕ) (m : Marked) (b : Body) (l : Counts) → Stands config es fs m b (with_module l)
      → Stands config es fs m (record b { counts = with_module b.counts }) l
  stands_module es fs m b l s = record {
    tied = tied_counted m b (with_module b.counts) s.tied;
    small = s.small;
    counts = grind arith;
    imports = s.imports;
    sized = omega (arith, s.sized);
    types = s.types;
    functions = s.functions;
  }

  pub stands_component : (es : List Entry) (fs : List ℕ) (m : Marked) (b : Body) (l : Counts) → Stands config es fs m b (with_component l)
      → Stands config es fs m (record b { counts = with_component b.counts }) l
  stands_component es fs m b l s = record {
    tied = tied_counted m b (with_component b.counts) s.tied;
    small = s.small;
    counts = grind arith;
    imports = s.imports;
    sized = omega (arith, s.sized);
    types = s.types;
    functions = s.functions;
  }

  -- A core type and a type, if there are n more.

  one_type : (c l : Counts) (n : ℕ) → Fits c (with_type_count l (suc n)) → Fits (with_type_count c 1) (with_type_count l n)
  one_type c l n f = grind arith

  pub stands_core : (e : CoreEntry) (n : ℕ) (es : List Entry) (fs : List ℕ) (m : Marked) (b : Body) (l : Counts)
      → Stands config es fs m b (with_type_count l (suc n)) → CoreLimits config e
      → Stands config es fs (with_core_entry m e) (with_core_facts b (core_facts e b.own ∷ [])) (with_type_count l n)
  stands_core e n es fs m b l s h = record {
    tied = tied_core config e m b s.tied h;
    small = s.small;
    counts = one_type b.counts l n s.counts;
    imports = s.imports;
    sized = s.sized;
    types = s.types;
    functions = s.functions;
  }

  pub stands_type : (e : Entry) (n : ℕ) (es : List Entry) (fs : List ℕ) (marked : List Marked) (outer : List FactScope) (plain : Scope)
      (around : List Scope) (m : Marked) (b : Body) (l : Counts) → Stands config es fs m b (with_type_count l (suc n)) → TiedScopes config marked outer
      → FormedEntry e plain around → EntryLimits config e → OfferedEntry e m marked
      → Stands config (es ++ e ∷ []) fs (with_type_entry marked m e) (with_facts b (facts e b.own outer ∷ [])) (with_type_count l n)
  stands_type e n es fs marked outer plain around m b l s k w h o = record {
    tied = tied_types config m b (e ∷ []) (mark e m marked ∷ []) (facts e b.own outer ∷ []) s.tied tt
        (tied_entry config e (names_of b.exports) m b.own marked outer s.tied.keeps s.tied.own k h o, tt);
    small = s.small;
    counts = one_type b.counts l n s.counts;
    imports = s.imports;
    sized = s.sized;
    types = functions_more es b.own.types e (facts e b.own outer) s.types (fits_function e b.own outer plain around w);
    functions = free_more b.own.types (facts e b.own outer ∷ []) fs s.functions;
  }

  -- A canonical function, if there are n more.

  canon_functions : (c : Canon) (s : Spaces) (b : Body) → FitFunctions s.types b.own.types → AllByRecursion (IsFreeAt b.own.types) s.functions
      → FormedCanon s c → AllByRecursion (IsFreeAt b.own.types) (after_canon s c).functions
  canon_functions (lift f t) s b h k w =
      all_both (IsFreeAt b.own.types) s.functions (t ∷ []) k (free_lifted s.types b.own.types t w.0 w.6.0 h w.3 w.6.1, tt)
  canon_functions (lower f) s b h k w = k

  canon_types : (c : Canon) (s : Spaces) → (after_canon s c).types ≡ s.types
  canon_types (lift f t) s = refl
  canon_types (lower f) s = refl

  pub stands_canon : (c : Canon) (n : ℕ) (s : Spaces) (m : Marked) (b : Body) (l : Counts)
      → Stands config s.types s.functions m b (record l { functions = l.functions + suc n }) → FormedCanon s c
      → Stands config (after_canon s c).types (after_canon s c).functions m (body_after_canon b c) (record l { functions = l.functions + n })
  stands_canon c n s m b l h w = record {
    tied = tied_counted m b (body_after_canon b c).counts h.tied;
    small = h.small;
    counts = grind arith;
    imports = h.imports;
    sized = h.sized;
    types = subst (λ es. FitFunctions es b.own.types) (sym (canon_types c s)) h.types;
    functions = canon_functions c s b h.types h.functions w;
  }
