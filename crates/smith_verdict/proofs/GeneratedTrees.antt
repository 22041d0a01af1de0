-- What is in components that can be generated.
use Rattle.std.proofs.Common.{◌≡◌, ℕ, ◌+◌, ◌<◌, ◌≤◌, ◌^◌, List, [], ◌∷◌, ◌++◌, length, refl, sym, ap, ◌∙◌, subst, arith, length-append}
use Rattle.std.proofs.lemmas.List.{length-map, map-append}
use Rattle.std.specs.List.{AllByRecursion}
use Rattle.smith_input.proofs.Lists.{all_back, all_front}
use Rattle.smith_format.specs.Consistency.{IsConsistent}
use Rattle.smith_format.specs.declared.config.Config.{Config}
use Rattle.smith_syntax.specs.Entries.{ImportEntry}
use Rattle.smith_syntax.specs.Scope.{Scope}
use Rattle.smith_tree.specs.Limits.{OwnLimits}
use Rattle.smith_tree.specs.Readable.{IsReadablePart, IsReadableRest}
use Rattle.smith_tree.specs.Tree.{ExportEntry, Part, Tree, add, anywhere_in, canons, component, components_in, core_module, core_types, custom, ends, exports}
use Rattle.smith_tree.specs.Tree.{exports_in, exports_of, first, imports, imports_in, imports_of, inside, names_in, own, types}
use Rattle.smith_tree.specs.WellFormed.{Formed, FormedPart, export_names, import_names, scope_of}
use Rattle.smith_tree.proofs.Left.{KeptPart, KeptParts}
use Rattle.smith_verdict.specs.Contained.{Content, OfPart, OfTree}
use Rattle.smith_verdict.proofs.GeneratedNames.{AreMade, all_made, made_among, none_made, none_more}
use Rattle.smith_verdict.proofs.GeneratedTypes.{Holds, of_cores, of_types}
use Rattle.smith_check.proofs.Growth.{own-add}

-- The names of the parts before one: so many imports, and so many exports.
record PartNames (import_count export_count : ℕ) (before : Tree) : Type 0 where
  imported : AreMade import_count (import_names (imports_of before))
  exported : AreMade export_count (export_names (exports_of before))

no_part_names : PartNames 0 0 ends
no_part_names = record { imported = none_made; exported = none_made }

part_names_more : (i e : ℕ) (before : Tree) (p : Part)
    → AreMade i (import_names (imports_of before) ++ import_names (imports_in p))
    → AreMade e (export_names (exports_of before) ++ export_names (exports_in p)) → PartNames i e (add before p)
part_names_more i e before p imported exported = record {
  imported =
      subst (AreMade i)
      (sym (ap import_names (own-add imports_in before p) ∙ map-append (λ (x : ImportEntry). x.name) (imports_of before) (imports_in p))) imported;
  exported =
      subst (AreMade e)
      (sym (ap export_names (own-add exports_in before p) ∙ map-append (λ (x : ExportEntry). x.name) (exports_of before) (exports_in p))) exported;
}

-- The rest of a component: short names of custom sections, few enough imports and exports after so many, and components within the limits.
record Rest (config : Config) (import_count export_count : ℕ) (t : Tree) : Type 0 where
  names : AllByRecursion (λ name. length name ≤ 1000) (own names_in t)
  imports : import_count + length (imports_of t) < 2 ^ 32
  exports : export_count + length (exports_of t) < 2 ^ 32
  inner : AllByRecursion (OwnLimits config) (inside t)

module _ (config : Config) (fits : IsConsistent config) where
  -- of a whole component
  whole_rest : (t : Tree) → OwnLimits config t → AllByRecursion (OwnLimits config) (inside t) → Rest config 0 0 t
  whole_rest t o inner = record {
    names = o.names;
    imports = omega (arith, o.imports, fits.imports);
    exports = omega (arith, o.exports, fits.funcs);
    inner = inner;
  }

  -- after a part
  rest_after : (i e : ℕ) (p : Part) (t : Tree) → Rest config i e (first p t) → Rest config (i + length (imports_in p)) (e + length (exports_in p)) t
  rest_after i e p t l = record {
    names = all_back (λ (name : List ℕ). length name ≤ 1000) (names_in p) (own names_in t) l.names;
    imports = omega (arith, l.imports, length-append (imports_in p) (imports_of t));
    exports = omega (arith, l.exports, length-append (exports_in p) (exports_of t));
    inner = all_back (OwnLimits config) (anywhere_in components_in p) (inside t) l.inner;
  }

  rest_inner : (i e : ℕ) (u t : Tree) → Rest config i e (first (component u) t) → Rest config 0 0 u
  rest_inner i e u t l = let all = all_front (OwnLimits config) (u ∷ inside u) (inside t) l.inner in whole_rest u all.0 all.1

  -- What is in each part.

  imports_made : (i e : ℕ) (is : List ImportEntry) (t before : Tree) → Rest config i e (first (imports is) t) → PartNames i e before
      → IsReadablePart config (imports is) before
      → AllByRecursion (λ name. length name ≤ 1000) (import_names is) × AreMade (i + length is) (import_names (imports_of before) ++ import_names is)
  imports_made i e is t before l ns read =
      let count : length (import_names is) ≡ length is = length-map is (λ x. x.name) in
      let made = all_made config.max_name_length fits.names i (import_names (imports_of before)) (import_names is)
      (omega (arith, l.imports, count, length-append is (imports_of t))) ns.imported
      read in
      (made.0, made_among (omega (arith, count)) made.1)

  exports_made : (i e : ℕ) (es : List ExportEntry) (t before : Tree) → Rest config i e (first (exports es) t) → PartNames i e before
      → IsReadablePart config (exports es) before
      → AllByRecursion (λ name. length name ≤ 1000) (export_names es) × AreMade (e + length es) (export_names (exports_of before) ++ export_names es)
  exports_made i e es t before l ns read =
      let count : length (export_names es) ≡ length es = length-map es (λ x. x.name) in
      let made = all_made config.max_name_length fits.names e (export_names (exports_of before)) (export_names es)
      (omega (arith, l.exports, count, length-append es (exports_of t))) ns.exported
      read.1 in
      (made.0, made_among (omega (arith, count)) made.1)

  -- a part that imports and exports nothing
  quiet : (i e : ℕ) (p : Part) (before : Tree) → imports_in p ≡ [] → exports_in p ≡ [] → PartNames i e before
      → PartNames (i + length (imports_in p)) (e + length (exports_in p)) (add before p)
  quiet i e p before no_imports no_exports ns =
      part_names_more (i + length (imports_in p)) (e + length (exports_in p)) before p
      (subst (λ is. AreMade (i + length is) (import_names (imports_of before) ++ import_names is)) (sym no_imports)
      (none_more (import_names (imports_of before)) (omega arith) ns.imported))
      (subst (λ es. AreMade (e + length es) (export_names (exports_of before) ++ export_names es)) (sym no_exports)
      (none_more (export_names (exports_of before)) (omega arith) ns.exported))

  -- the names with those of one more part
  names_next : (i e : ℕ) (p : Part) (t before : Tree) → Rest config i e (first p t) → PartNames i e before → IsReadablePart config p before
      → PartNames (i + length (imports_in p)) (e + length (exports_in p)) (add before p)
  names_next i e (imports is) t before l ns read =
      part_names_more (i + length is) (e + 0) before (imports is) (imports_made i e is t before l ns read).1
      (none_more (export_names (exports_of before)) (omega arith) ns.exported)
  names_next i e (exports es) t before l ns read =
      part_names_more (i + 0) (e + length es) before (exports es) (none_more (import_names (imports_of before)) (omega arith) ns.imported)
      (exports_made i e es t before l ns read).1
  names_next i e (custom name contents) t before l ns read = quiet i e (custom name contents) before refl refl ns
  names_next i e (core_module text) t before l ns read = quiet i e (core_module text) before refl refl ns
  names_next i e (core_types ts) t before l ns read = quiet i e (core_types ts) before refl refl ns
  names_next i e (component u) t before l ns read = quiet i e (component u) before refl refl ns
  names_next i e (types ts) t before l ns read = quiet i e (types ts) before refl refl ns
  names_next i e (canons fs) t before l ns read = quiet i e (canons fs) before refl refl ns

  module _ (P : Content → Type 0) (holds : Holds config P) where
    of_imports : (is : List ImportEntry) → AllByRecursion (λ name. length name ≤ 1000) (import_names is) → OfPart P (imports is)
    of_imports [] all = tt
    of_imports (i ∷ is) all = (holds.names i.name all.0, of_imports is all.1)

    of_exports : (es : List ExportEntry) → AllByRecursion (λ name. length name ≤ 1000) (export_names es) → OfPart P (exports es)
    of_exports [] all = tt
    of_exports (e ∷ es) all = (holds.names e.name all.0, of_exports es all.1)

    mutual
      of_tree : (t before : Tree) (around : List Scope) (i e : ℕ) → Formed t around before → KeptParts config t → IsReadableRest config t before
          → Rest config i e t → PartNames i e before → OfTree P t
      of_tree ends before around i e formed kept read l ns = tt
      of_tree (first p t) before around i e formed kept read l ns = (
        of_part p t before around i e formed.0 kept.0 read.0 l ns,
        of_tree t (add before p) around (i + length (imports_in p)) (e + length (exports_in p)) formed.1 kept.1 read.1 (rest_after i e p t l)
            (names_next i e p t before l ns read.0),
      )

      of_part : (p : Part) (t before : Tree) (around : List Scope) (i e : ℕ) → FormedPart p around before → KeptPart config p
          → IsReadablePart config p before → Rest config i e (first p t) → PartNames i e before → OfPart P p
      of_part (custom name contents) t before around i e formed kept read l ns = holds.names name l.names.0
      of_part (core_module text) t before around i e formed kept read l ns = tt
      of_part (core_types ts) t before around i e formed kept read l ns = of_cores config fits.names P holds ts (scope_of before) formed kept read
      of_part (component u) t before around i e formed kept read l ns =
          of_tree u ends (scope_of before ∷ around) 0 0 formed kept.1 read (rest_inner i e u t l) no_part_names
      of_part (types ts) t before around i e formed kept read l ns = of_types config fits.names P holds ts (scope_of before) around formed kept read
      of_part (canons fs) t before around i e formed kept read l ns = tt
      of_part (imports is) t before around i e formed kept read l ns = of_imports is (imports_made i e is t before l ns read).0
      of_part (exports es) t before around i e formed kept read l ns = of_exports es (exports_made i e es t before l ns read).0

  -- in the whole
  pub of_whole : (P : Content → Type 0) → Holds config P → (t : Tree) → AllByRecursion (OwnLimits config) (t ∷ inside t) → Formed t [] ends
      → KeptParts config t → IsReadableRest config t ends → OfTree P t
  of_whole P holds t limits formed kept read = of_tree P holds t ends [] 0 0 formed kept read (whole_rest t limits.0 limits.1) no_part_names
