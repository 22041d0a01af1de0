-- Sections of which each entry was offered are valid, and so is what follows them.
use Rattle.std.proofs.Common.{◌≡◌, ℕ, zero, suc, true, false, List, [], ◌∷◌, ◌++◌, length, map, fold, sym, subst, append-nil, append_assoc, arith}
use Rattle.std.proofs.Common.{Option, Some, None, slice_get, option_to_list}
use Rattle.std.proofs.lemmas.List.Sums.{fold-append}
use Rattle.std.specs.List.{AllByRecursion}
use Rattle.smith_format.specs.declared.config.Config.{Config}
use Rattle.smith_syntax.specs.CoreLimits.{CoreLimits}
use Rattle.smith_syntax.specs.Entries.{CoreEntry, Entry, ImportEntry}
use Rattle.smith_syntax.specs.Marked.{Marked}
use Rattle.smith_syntax.specs.Scope.{Scope, with_type}
use Rattle.smith_syntax.specs.TypeLimits.{EntryLimits}
use Rattle.smith_syntax.specs.WellFormed.{FormedTypes}
use Rattle.smith_syntax.specs.declared.deftype.ComponentTypeRef.{ComponentTypeRef}
use Rattle.smith_syntax.specs.declared.deftype.ComponentTypeRef.TheVariants as to
use Rattle.smith_tree.specs.Marking.{with_core_entry, with_export_entries, with_exports_entry}
use Rattle.smith_tree.specs.Marking.{with_import_entry, with_type_entry}
use Rattle.smith_tree.specs.Offered.{OfferedExports, OfferedImports, OfferedTypes}
use Rattle.smith_tree.specs.Spaces.{Spaces, after_canon, after_export as spaces_after_export, after_import as spaces_after_import}
use Rattle.smith_tree.specs.Tree.{Canon, ExportEntry}
use Rattle.smith_tree.specs.TypeOffers.{has_room}
use Rattle.smith_tree.specs.WellFormed.{FormedCanons, FormedImport}
use Rattle.smith_tree.specs.Bodies.{Body, after_export, after_import, core_facts, facts, with_core_facts, with_facts}
use Rattle.smith_tree.specs.Counts.{Counts, with_type_count}
use Rattle.smith_tree.specs.Demands.{everything}
use Rattle.smith_tree.specs.Facts.{FactScope, Facts}
use Rattle.smith_tree.specs.Validates.{ValidCanons, ValidCores, ValidEntries, ValidExports, ValidImports}
use Rattle.smith_tree.specs.Validates.{after_canon as body_after_canon, after_cores, after_entries, exported, exported_references}
use Rattle.smith_tree.specs.Validates.{imported_references, names_of}
use Rattle.smith_tree.proofs.Functions.{IsFreeAt, free_refers}
use Rattle.smith_tree.proofs.Left.{Fits, canons_left, exports_left, imports_left, more_exports}
use Rattle.smith_tree.proofs.OfferedCores.{limits_of, valid_core}
use Rattle.smith_tree.proofs.Standing.{Stands, stands_canon, stands_core, stands_left, stands_small, stands_type}
use Rattle.smith_tree.proofs.StandingExterns.{fewer_exports, stands_export, stands_import}
use Rattle.smith_tree.proofs.Ties.{TiedScopes, entries_of}
use Rattle.smith_tree.proofs.ValidEntries.{import_asked, valid_entry}

-- Nothing is left of a section at its end.

none_left : (c l : Counts) → Fits c (with_type_count l 0) → Fits c l
none_left c l f = grind arith

no_canons : (c l : Counts) → Fits c (canons_left [] l) → Fits c l
no_canons c l f = grind arith

no_imports : (c l : Counts) → Fits c (imports_left [] l) → Fits c l
no_imports c l f = grind arith

no_exports : (c l : Counts) → Fits c (exports_left [] l) → Fits c l
no_exports c l f = grind arith

-- exports in a row
valid_both : (rs qs : List ComponentTypeRef) (outer : List FactScope) (b : Body) → ValidExports everything rs outer b
    → ValidExports everything qs outer (fold (after_export outer) b rs) → ValidExports everything (rs ++ qs) outer b
valid_both [] qs outer b h k = k
valid_both (r ∷ rs) qs outer b h k = (h.0, h.1, valid_both rs qs outer (after_export outer b r) h.2 k)

module _ (config : Config) where
  pub cores : (ts : List CoreEntry) (es : List Entry) (fs : List ℕ) (m : Marked) (b : Body) (l : Counts)
      → Stands config es fs m b (with_type_count l (length ts)) → AllByRecursion (CoreLimits config) ts
      → ValidCores everything ts b × Stands config es fs (fold with_core_entry m ts) (after_cores ts b) l
  cores [] es fs m b l s h = (tt, stands_left config m b (with_type_count l 0) s l (none_left b.counts l s.counts))
  cores (e ∷ ts) es fs m b l s h =
      let more = with_core_entry m e in
      let next = with_core_facts b (core_facts e b.own ∷ []) in
      let here = stands_core config e (length ts) es fs m b l s h.0 in
      let rest = cores ts es fs more next l here h.1 in (
        (
          valid_core config (entries_of b.own.core_types) e (limits_of config b.own.core_types s.tied.own.cores) h.0,
          stands_small config more next (with_type_count l (length ts)) here,
          rest.0,
        ),
        rest.1,
      )

  pub entries : (ts : List Entry) (es : List Entry) (fs : List ℕ) (marked : List Marked) (outer : List FactScope) (plain : Scope) (around : List Scope)
      (m : Marked) (b : Body) (l : Counts) → Stands config es fs m b (with_type_count l (length ts)) → TiedScopes config marked outer
      → FormedTypes ts plain around → AllByRecursion (EntryLimits config) ts → OfferedTypes ts marked m
      → ValidEntries everything ts outer b
      × Stands config (es ++ ts) fs (fold (with_type_entry marked) m ts) (after_entries ts outer b) l
  entries [] es fs marked outer plain around m b l s k w h o = grind (arith, stands_left, none_left, Stands, append-nil)
  entries (e ∷ ts) es fs marked outer plain around m b l s k w h o =
      let more = with_type_entry marked m e in
      let next = with_facts b (facts e b.own outer ∷ []) in
      let here = stands_type config e (length ts) es fs marked outer plain around m b l s k w.0 h.0 o.0 in
      let rest = entries ts (es ++ e ∷ []) fs marked outer (with_type plain e) around more next l here k w.1 h.1 o.1 in (
        (
          valid_entry config e (names_of b.exports) m b.own marked outer plain around s.tied.keeps s.tied.own k w.0 h.0 o.0,
          stands_small config more next (with_type_count l (length ts)) here,
          rest.0,
        ),
        subst (λ x. Stands config x fs (fold (with_type_entry marked) more ts) (after_entries ts outer next) l)
            (append_assoc es (e ∷ []) ts) rest.1,
      )

  pub lifts : (cs : List Canon) (s : Spaces) (m : Marked) (b : Body) (l : Counts) → Stands config s.types s.functions m b (canons_left cs l)
      → FormedCanons cs s
      → ValidCanons everything cs b
      × Stands config (fold after_canon s cs).types (fold after_canon s cs).functions m (fold body_after_canon b cs) l
  lifts [] s m b l h w = (tt, stands_left config m b (canons_left [] l) h l (no_canons b.counts l h.counts))
  lifts (c ∷ cs) s m b l h w =
      let here = stands_canon config c (length cs) s m b l h w.0 in
      let rest = lifts cs (after_canon s c) m (body_after_canon b c) l here w.1 in
      ((stands_small config m (body_after_canon b c) (canons_left cs l) here, rest.0), rest.1)

  pub brought : (is : List ImportEntry) (s : Spaces) (m : Marked) (b : Body) (l : Counts) (outer : List FactScope) (plain : Scope)
      → Stands config s.types s.functions m b (imports_left is l) → plain.types ≡ s.types → AllByRecursion (FormedImport plain) is
      → OfferedImports is m
      → ValidImports everything (imported_references is) outer b
      × Stands config (fold spaces_after_import s is).types (fold spaces_after_import s is).functions (fold with_import_entry m is)
      (fold (after_import outer) b (imported_references is)) l
  brought [] s m b l outer plain h same w o = (tt, stands_left config m b (imports_left [] l) h l (no_imports b.counts l h.counts))
  brought (i ∷ is) s m b l outer plain h same w o =
      let more = with_import_entry m i in
      let next = after_import outer b i.to in
      let here = stands_import config i is s m b l outer plain h same w.0 o.0 o.1 in
      let rest = brought is (spaces_after_import s i) more next l outer plain here same w.1 o.2 in (
        (
          import_asked config m b outer i.to h.tied w.0.1 o.0,
          stands_small config more next (imports_left is l) here,
          rest.0,
        ),
        rest.1,
      )

  -- an export, which is of one function or of none
  export_one : (f : Option ℕ) (n : ℕ) (es : List Entry) (fs : List ℕ) (m : Marked) (b : Body) (l : Counts) (outer : List FactScope)
      → Stands config es fs m b (more_exports l (suc n)) → AllByRecursion (IsFreeAt b.own.types) (option_to_list f) → has_room m false ≡ true
      → ValidExports everything (map (λ t. to.Func t) (option_to_list f)) outer b
      × Stands config es (fs ++ option_to_list f) (with_exports_entry m (map (λ t. to.Func t) (option_to_list f)))
      (fold (after_export outer) b (map (λ t. to.Func t) (option_to_list f))) (more_exports l n)
  export_one None n es fs m b l outer h free roomy = grind (arith, Stands, more_exports, append-nil, stands_left, suc, fewer_exports)
  export_one (Some t) n es fs m b l outer h free roomy =
      let here = stands_export config t n es fs m b l outer h free.0 roomy in (
        (free_refers (exported b) b.own.types t free.0, stands_small config _ _ (more_exports l n) here, tt),
        here,
      )

  free_found : (ts : List Facts) (fs : List ℕ) (i : ℕ) → AllByRecursion (IsFreeAt ts) fs
      → AllByRecursion (IsFreeAt ts) (option_to_list (slice_get fs i))
  free_found ts [] i h = tt
  free_found ts (f ∷ fs) zero h = (h.0, tt)
  free_found ts (f ∷ fs) (suc i) h = free_found ts fs i h.1

  pub given : (xs : List ExportEntry) (s : Spaces) (m : Marked) (b : Body) (l : Counts) (outer : List FactScope)
      → Stands config s.types s.functions m b (exports_left xs l) → OfferedExports xs s m
      → ValidExports everything (exported_references s xs) outer b
      × Stands config (fold spaces_after_export s xs).types (fold spaces_after_export s xs).functions (with_export_entries xs s m)
      (fold (after_export outer) b (exported_references s xs)) l
  given [] s m b l outer h o = (tt, stands_left config m b (exports_left [] l) h l (no_exports b.counts l h.counts))
  given (x ∷ xs) s m b l outer h o =
      let f = slice_get s.functions x.func in
      let rs : List ComponentTypeRef = map (λ t. to.Func t) (option_to_list f) in
      let qs = exported_references (spaces_after_export s x) xs in
      let next = fold (after_export outer) b rs in
      let after = spaces_after_export s x in
      let one = export_one f (length xs) s.types s.functions m b l outer h (free_found b.own.types s.functions x.func h.functions) o.0 in
      let rest = given xs after (with_exports_entry m rs) next l outer one.1 o.1 in (
        valid_both rs qs outer b one.0 rest.0,
        subst (λ c. Stands config (fold spaces_after_export after xs).types (fold spaces_after_export after xs).functions
            (with_export_entries xs after (with_exports_entry m rs)) c l)
            (sym (fold-append (after_export outer) b rs qs)) rest.1,
      )
