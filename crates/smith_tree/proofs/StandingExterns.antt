-- What holds before a place in a component holds after an import and an export there.
use Rattle.std.proofs.Common.{◌≡◌, ℕ, suc, ◌+◌, ◌≤◌, true, false, List, [], ◌∷◌, ◌++◌, refl, sym, subst, append-nil, arith}
use Rattle.std.proofs.Common.{Some, slice_get}
use Rattle.std.proofs.lemmas.Bool.{leb-true}
use Rattle.std.specs.List.{AllByRecursion}
use Rattle.smith_format.specs.declared.config.Config.{Config}
use Rattle.smith_input.proofs.Lists.{all_both}
use Rattle.smith_syntax.specs.Entries.{Entry, ImportEntry}
use Rattle.smith_syntax.specs.Marked.{Marked, with_export}
use Rattle.smith_syntax.specs.Scope.{Scope}
use Rattle.smith_syntax.specs.Usable.{OfferedRef}
use Rattle.smith_syntax.specs.WellFormed.{FormedRef, is_type_eq}
use Rattle.smith_syntax.specs.declared.deftype.ComponentTypeRef.{ComponentTypeRef}
use Rattle.smith_syntax.specs.declared.deftype.ComponentTypeRef.TheVariants as to
use Rattle.smith_tree.specs.Marking.{with_import_entry}
use Rattle.smith_tree.specs.Spaces.{Spaces, after_import as spaces_after_import}
use Rattle.smith_tree.specs.Tree.{function_of}
use Rattle.smith_tree.specs.TypeOffers.{has_room}
use Rattle.smith_tree.specs.WellFormed.{FormedImport}
use Rattle.smith_tree.specs.Bodies.{Body, after_export, after_import}
use Rattle.smith_tree.specs.Bodies.{reference_size as fact_reference}
use Rattle.smith_tree.specs.Counts.{Counts, with_export as with_export_count, with_import as with_import_count}
use Rattle.smith_tree.specs.Counts.{with_type_count}
use Rattle.smith_tree.specs.Facts.{FactScope, sizes as fact_sizes}
use Rattle.smith_tree.specs.Validates.{names_of}
use Rattle.smith_tree.proofs.Capped.{capped_room}
use Rattle.smith_tree.proofs.Functions.{FitFunctions, IsFreeAt, free_more, free_refers, free_small}
use Rattle.smith_tree.proofs.Functions.{imported_function}
use Rattle.smith_tree.proofs.Left.{Fits, imports_left, more_exports}
use Rattle.smith_tree.proofs.Standing.{Stands}
use Rattle.smith_tree.proofs.SmallSizes.{small_reference}
use Rattle.smith_tree.proofs.TiedBodies.{TiedBody, tied_function, tied_import}

module _ (config : Config) where
  -- Imports and exports: there is room for one more.

  room : (m : Marked) (b : Body) → TiedBody config m b → has_room m false ≡ true → b.size ≤ 990000
  room m b t h = capped_room b.size (subst (λ n. n ≤ 990000) t.size (leb-true m.size 990000 h))

  -- how many an import adds to each count, and what its size is

  record Added (c : Counts) (size more : ℕ) (d : Counts) : Type 0 where
    imports : d.imports ≡ c.imports + 1
    sized : d.imports + 1 ≤ size + more + d.modules + d.components + d.instances

  import_adds : (es : List Entry) (m : Marked) (b : Body) (outer : List FactScope) (plain : Scope) (r : ComponentTypeRef)
      → TiedBody config m b → plain.types ≡ es → FitFunctions es b.own.types → FormedRef plain r → is_type_eq r ≡ false → OfferedRef m true r
      → b.counts.imports + 1 ≤ b.size + b.counts.modules + b.counts.components + b.counts.instances
      → (AllByRecursion (IsFreeAt b.own.types) (function_of r))
      × (Added b.counts b.size (fact_reference b.own.core_types (fact_sizes b.own.types) r) (after_import outer b r).counts)
  import_adds es m b outer plain (to.Func i) t e h w typed o k =
      let one = imported_function (names_of b.exports) es m.marks b.own.types i w.0 h t.own.types
      (subst (λ l. slice_get l i ≡ Some w.0) e w.1) w.2 o.0 o.1 in
      ((one.free, tt), record { imports = refl; sized = omega (arith, k, one.size) })
  import_adds es m b outer plain (to.TypeEq i) t e h w typed o k = cc
  import_adds es m b outer plain _ t e h w typed o k = (tt, record { imports = refl; sized = omega (arith, k) })

  import_fits : (r : ComponentTypeRef) (name : List ℕ) (is : List ImportEntry) (c l : Counts)
      → Fits c (imports_left (record { name = name; to = r } ∷ is) l) → Fits (with_import_count c r) (imports_left is l)
  import_fits (to.Module i) name is c l f = grind arith
  import_fits (to.Func i) name is c l f = grind arith
  import_fits (to.TypeEq i) name is c l f = grind arith
  import_fits (to.Component i) name is c l f = grind arith
  import_fits (to.Instance i) name is c l f = grind arith

  pub stands_import : (i : ImportEntry) (is : List ImportEntry) (s : Spaces) (m : Marked) (b : Body) (l : Counts) (outer : List FactScope)
      (plain : Scope) → Stands config s.types s.functions m b (imports_left (i ∷ is) l) → plain.types ≡ s.types → FormedImport plain i
      → OfferedRef m true i.to → has_room m false ≡ true
      → Stands config s.types (spaces_after_import s i).functions (with_import_entry m i) (after_import outer b i.to) (imports_left is l)
  stands_import i is s m b l outer plain h same w o roomy =
      let adds = import_adds s.types m b outer plain i.to h.tied same h.types w.0 w.1 o h.sized in
      let before = room m b h.tied roomy in
      let more = small_reference config (names_of b.exports) m b.own true i.to h.tied.own o in
      record {
        tied = tied_import config m b outer i.to h.tied;
        small = omega (arith, before, more);
        counts = import_fits i.to i.name is b.counts l h.counts;
        imports = omega (arith, adds.1.imports, h.sized, before, h.counts.modules, h.counts.components, h.counts.instances);
        sized = adds.1.sized;
        types = h.types;
        functions = all_both (IsFreeAt b.own.types) s.functions (function_of i.to) h.functions adds.0;
      }

  -- An export of a function, if there are n more.

  export_fits : (c l : Counts) (t n : ℕ) → Fits c (more_exports l (suc n)) → Fits (with_type_count (with_export_count c (to.Func t)) 0) (more_exports l n)
  export_fits c l t n f = grind arith

  pub fewer_exports : (c l : Counts) (n : ℕ) → Fits c (more_exports l (suc n)) → Fits c (more_exports l n)
  fewer_exports c l n f = grind arith

  pub stands_export : (t n : ℕ) (es : List Entry) (fs : List ℕ) (m : Marked) (b : Body) (l : Counts) (outer : List FactScope)
      → Stands config es fs m b (more_exports l (suc n)) → IsFreeAt b.own.types t → has_room m false ≡ true
      → Stands config es (fs ++ t ∷ []) (with_export m (to.Func t)) (after_export outer b (to.Func t)) (more_exports l n)
  stands_export t n es fs m b l outer h free roomy = record {
    tied = tied_function config m b outer t h.tied (free_refers (names_of b.exports) b.own.types t free);
    small = omega (arith, room m b h.tied roomy, free_small b.own.types t free);
    counts = export_fits b.counts l t n h.counts;
    imports = h.imports;
    sized = omega (arith, h.sized);
    types = subst (FitFunctions es) (sym (append-nil b.own.types)) h.types;
    functions = free_more b.own.types [] (fs ++ t ∷ []) (all_both (IsFreeAt b.own.types) fs (t ∷ []) h.functions (free, tt));
  }
