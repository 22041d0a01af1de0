-- Each name of a well-formed component that fits limits can be read.
use Rattle.std.proofs.Common.{◌≡◌, ℕ, ◌≤◌, List, [], ◌∷◌, ◌++◌, length, map, refl, sym, ap, ◌∙◌, subst, arith, bytes_eq, false, if◌then◌else◌}
use Rattle.std.proofs.lemmas.Bool.{le-leb}
use Rattle.std.proofs.lemmas.Grind.{flat_map-append}
use Rattle.std.proofs.lemmas.List.{map-append}
use Rattle.std.proofs.lemmas.List.Elements.{filter-append}
use Rattle.std.proofs.lemmas.Slice.Eq.{bytes_eq-Decides}
use Rattle.std.specs.List.{AllByRecursion, IsDistinct, filter, flat_map}
use Rattle.smith_format.specs.Entities.{CoreImport}
use Rattle.smith_format.specs.declared.config.Config.{Config}
use Rattle.smith_format.specs.declared.types.EntityType.{EntityType}
use Rattle.smith_input.specs.NameScript.{AreReachable}
use Rattle.smith_input.specs.NewNames.{IsMadeNew, is_among}
use Rattle.smith_input.proofs.DistinctNames.{AreNew, distinct_new, new_back, none_before}
use Rattle.smith_input.proofs.NameShapes.{short_within}
use Rattle.smith_syntax.specs.Entries.{CoreEntry, core_func, core_module as module_type}
use Rattle.smith_syntax.specs.Entries.{ModuleDecl, imports as imports_one, declares, aliases, exports as exports_one}
use Rattle.smith_syntax.specs.Entries.{DefValType, primitive_type, record_type, variant_type, list_type, tuple_type, flags_type, enum_type}
use Rattle.smith_syntax.specs.Entries.{option_type, result_type}
use Rattle.smith_syntax.specs.Entries.{Entry, defined, function, component_type, instance_type}
use Rattle.smith_syntax.specs.Entries.{Decl, Decls, core_type_decl, type_decl, type_alias, core_type_alias, import_decl, export_decl, no_decls, then_decls}
use Rattle.smith_syntax.specs.ModuleTypes.{HasNewNames, after_front, module_export_names, module_export_of, module_import_of, names_from}
use Rattle.smith_syntax.specs.Scope.{Scope, after_decl, empty_scope, with_core_type, with_type}
use Rattle.smith_syntax.specs.WellFormed.{FormedCore, FormedCores, FormedDeclaration, FormedDeclarations, FormedDefined, FormedEntry, FormedTypes, Named}
use Rattle.smith_syntax.specs.WellFormed.{decl_exports, decl_imports, export_of, import_of, names}
use Rattle.smith_tree.specs.ModuleScript.{in_front}
use Rattle.smith_tree.specs.Readable.{IsReadable, IsReadablePart, IsReadableRest}
use Rattle.smith_tree.specs.ReadableCoreTypes.{AreReadableModuleDecls, IsReadableCore, IsReadableModuleDecl, IsReadableNewText, IsReadableText}
use Rattle.smith_tree.specs.ReadableTypes.{AreReadableDecls, IsReadableDecl, IsReadableDefined, IsReadableType}
use Rattle.smith_tree.specs.Tree.{Part, Tree, add, ends, first, custom, core_module, core_types, component, types, canons, imports, exports}
use Rattle.smith_syntax.specs.Entries.{ImportEntry}
use Rattle.smith_tree.specs.Tree.{ExportEntry, exports_of, imports_of}
use Rattle.smith_tree.specs.WellFormed.{Formed, FormedPart, WellFormed, scope_of}
use Rattle.smith_tree.proofs.FrontFound.{front_decls, fronted, in_front_is, whole_front}
use Rattle.smith_reduce.specs.Fits.{AreShort, Fits, FitsCore, FitsCoreType, FitsDecl, FitsDecls, FitsEntry, FitsPart, FitsType, HasReadableTexts, labels}

-- A name that is none of those before it is made new as it is.
made_itself : (before : List (List ℕ)) (name : List ℕ) → is_among before name ≡ false → IsMadeNew before name name
made_itself before name new = record { times = 0; name_is = refl; taken = λ n b. absurd (omega (arith, b)); is_new = new }

-- All of a list are distinct, so those behind some are new after them.
behind_new : (before ns : List (List ℕ)) → IsDistinct bytes_eq (before ++ ns) → AreNew before ns
behind_new before ns d = new_back [] before ns (distinct_new [] (before ++ ns) (none_before (before ++ ns)) d)

module _ (config : Config) where
  abbrev max : ℕ
  max = config.max_name_length

  reached : (before ns : List (List ℕ)) → AreNew before ns → AreShort config ns → AreReachable max before ns
  reached before [] new short = tt
  reached before (n ∷ ns) new short =
      ((n, short_within max n short.0, made_itself before n new.0), reached (before ++ n ∷ []) ns new.1 short.1)

  all_reached : (ns : List (List ℕ)) → Named ns → AreShort config ns → AreReachable max [] ns
  all_reached ns named short = reached [] ns (distinct_new [] ns (none_before ns) named.1) short

  -- core types

  text_new : (before : List (List ℕ)) (name : List ℕ) → is_among before name ≡ false → IsReadableText config name → IsReadableNewText config before name
  text_new before name new text = (text.0, (name, le-leb (length name) max text.1, made_itself before name new))

  from_append : (from : List ℕ) (ds es : List ModuleDecl) → names_from from (ds ++ es) ≡ names_from from ds ++ names_from from es
  from_append from ds es =
      ap (λ (z : List CoreImport). map (λ i. i.1) (filter (λ i. bytes_eq i.0 from) z)) (flat_map-append module_import_of ds es)
      ∙ (ap (map (λ (i : CoreImport). i.1)) (filter-append (λ i. bytes_eq i.0 from) (flat_map module_import_of ds) (flat_map module_import_of es))
      ∙ map-append (λ (i : CoreImport). i.1) (filter (λ i. bytes_eq i.0 from) (flat_map module_import_of ds)) (filter (λ i. bytes_eq i.0 from)
      (flat_map module_import_of es)))

  exports_append : (ds es : List ModuleDecl) → module_export_names (ds ++ es) ≡ module_export_names ds ++ module_export_names es
  exports_append ds es =
      ap (map (λ (x : List ℕ × EntityType). x.0)) (flat_map-append module_export_of ds es)
      ∙ map-append (λ (x : List ℕ × EntityType). x.0) (flat_map module_export_of ds) (flat_map module_export_of es)

  -- a list of names of declarations, as a function that goes over a list in a row
  module _ (f : List ModuleDecl → List (List ℕ)) (append : (ds es : List ModuleDecl) → f (ds ++ es) ≡ f ds ++ f es) where
    one_later : (before : List ModuleDecl) (d : ModuleDecl) (ds : List ModuleDecl) → AreNew (f before) (f (d ∷ ds)) → AreNew (f (before ++ d ∷ [])) (f ds)
    one_later before d ds new =
        subst (λ z. AreNew z (f ds)) (sym (append before (d ∷ [])))
        (new_back (f before) (f (d ∷ [])) (f ds) (subst (AreNew (f before)) (append (d ∷ []) ds) new))

  itself : (m n : List ℕ) (e : EntityType) (ds : List ModuleDecl) → names_from m (imports_one m n e ∷ ds) ≡ n ∷ names_from m ds
  itself m n e ds =
      let more : List CoreImport = filter (λ i. bytes_eq i.0 m) (flat_map module_import_of ds) in
      ap (λ t. map (λ (i : CoreImport). i.1) (if t then (m, n, e) ∷ more else more)) ((bytes_eq-Decides m m).1 refl)

  decl_readable : (before : List ModuleDecl) (d : ModuleDecl) (ds : List ModuleDecl)
      → ((from : List ℕ) → AreNew (names_from from before) (names_from from (d ∷ ds)))
      → AreNew (module_export_names before) (module_export_names (d ∷ ds))
      → HasReadableTexts config d → IsReadableModuleDecl config before d
  decl_readable before (imports_one from name e) ds new exported texts =
      (texts.0, text_new (names_from from before) name (subst (AreNew (names_from from before)) (itself from name e ds) (new from)).0 texts.1)
  decl_readable before (declares f) ds new exported texts = tt
  decl_readable before (aliases count i) ds new exported texts = tt
  decl_readable before (exports_one name e) ds new exported texts = text_new (module_export_names before) name exported.0 texts

  decls_readable : (before ds : List ModuleDecl)
      → ((from : List ℕ) → AreNew (names_from from before) (names_from from ds))
      → AreNew (module_export_names before) (module_export_names ds)
      → AllByRecursion (HasReadableTexts config) ds → AreReadableModuleDecls config before ds
  decls_readable before [] new exported texts = tt
  decls_readable before (d ∷ ds) new exported texts = (
    decl_readable before d ds new exported texts.0,
    decls_readable (before ++ d ∷ []) ds (λ from. one_later (names_from from) (from_append from) before d ds (new from))
        (one_later module_export_names exports_append before d ds exported) texts.1,
  )

  core_readable : (t : CoreEntry) (around : List CoreEntry) → FormedCore t around → FitsCore config t → IsReadableCore config t
  core_readable (core_func f) around formed fits = tt
  core_readable (module_type ds) around formed fits =
      let x = fronted ds in
      let front = in_front ds (after_front ds) in
      let whole : ds ≡ front ++ after_front ds =
      whole_front x ∙ ap (λ z. z ++ after_front ds) (sym (in_front_is ds (front_decls x.memory x.reallocs x.frees) (after_front ds) (whole_front x))) in
      let behind = after_front ds in
      let new : HasNewNames (front ++ behind) = subst HasNewNames whole formed.1 in
      decls_readable front behind
      (λ from. behind_new (names_from from front) (names_from from behind)
      (subst (IsDistinct bytes_eq) (from_append from front behind) (new.imported from)))
      (behind_new (module_export_names front) (module_export_names behind)
      (subst (IsDistinct bytes_eq) (exports_append front behind) new.exported))
      fits.names

  cores_readable : (ts : List CoreEntry) (own : Scope) → FormedCores ts own → AllByRecursion (FitsCoreType config) ts
      → AllByRecursion (IsReadableCore config) ts
  cores_readable [] own formed fits = tt
  cores_readable (t ∷ ts) own formed fits =
      (core_readable t own.core_types formed.0 fits.0.fits, cores_readable ts (with_core_type own t) formed.1 fits.1)

  -- types

  defined_readable : (t : DefValType) (own : Scope) → FormedDefined t own → AreShort config (labels t) → IsReadableDefined config t
  defined_readable (record_type fs) own formed short = all_reached (map (λ f. f.0) fs) formed.0 short
  defined_readable (variant_type cs) own formed short = all_reached (map (λ c. c.0) cs) formed.0 short
  defined_readable (flags_type ns) own formed short = all_reached ns formed.0 short
  defined_readable (enum_type ns) own formed short = all_reached ns formed.0 short
  defined_readable (primitive_type p) own formed short = tt
  defined_readable (list_type v) own formed short = tt
  defined_readable (tuple_type vs) own formed short = tt
  defined_readable (option_type v) own formed short = tt
  defined_readable (result_type ok err) own formed short = tt

  -- the names of declarations, imports or exports
  module _ (f : Decl → List (List ℕ × Unit {0})) where
    later : (before : List (List ℕ)) (d : Decl) (more : List (List ℕ × Unit {0})) → AreNew before (names (f d ++ more))
        → AreNew (before ++ names (f d)) (names more)
    later before d more new = new_back before (names (f d)) (names more) (subst (AreNew before) (map-append (λ x. x.0) (f d) more) new)

  abbrev AreNewBoth : List (List ℕ) → List (List ℕ) → Decls → Type 0
  AreNewBoth imported exported ds = AreNew imported (names (decl_imports ds)) × AreNew exported (names (decl_exports ds))

  one_reached : (before : List (List ℕ)) (name : List ℕ) → is_among before name ≡ false → length name ≤ max → AreReachable max before (name ∷ [])
  one_reached before name new short = reached before (name ∷ []) (new, tt) (short, tt)

  mutual
    entry_readable : (e : Entry) (own : Scope) (outer : List Scope) → FormedEntry e own outer → FitsEntry config e → IsReadableType config e
    entry_readable (defined t) own outer formed fits = defined_readable t own formed fits
    entry_readable (function s) own outer formed fits = all_reached (map (λ p. p.0) s.params) formed.0 fits
    entry_readable (component_type ds) own outer formed fits =
        within_readable ds [] [] empty_scope (own ∷ outer) formed.0
        (distinct_new [] (names (decl_imports ds)) (none_before (names (decl_imports ds))) formed.1.1)
        (distinct_new [] (names (decl_exports ds)) (none_before (names (decl_exports ds))) formed.2.1) fits.1
    entry_readable (instance_type ds) own outer formed fits =
        within_readable ds [] [] empty_scope (own ∷ outer) formed.0
        (subst (λ xs. AreNew [] (names xs)) (sym formed.1) tt)
        (distinct_new [] (names (decl_exports ds)) (none_before (names (decl_exports ds))) formed.2.1) fits.1

    declared_readable : (d : Decl) (imported exported : List (List ℕ)) (own : Scope) (outer : List Scope) (is es : List (List ℕ × Unit {0}))
        → FormedDeclaration d own outer → AreNew imported (names (import_of d ++ is)) → AreNew exported (names (export_of d ++ es)) → FitsDecl config d
        → IsReadableDecl config d imported exported
    declared_readable (core_type_decl t k) imported exported own outer is es formed ni ne fits = core_readable t own.core_types formed fits
    declared_readable (type_decl e) imported exported own outer is es formed ni ne fits = entry_readable e own outer formed fits
    declared_readable (type_alias count i k) imported exported own outer is es formed ni ne fits = tt
    declared_readable (core_type_alias count i k) imported exported own outer is es formed ni ne fits = tt
    declared_readable (import_decl name n r) imported exported own outer is es formed ni ne fits = (one_reached imported name ni.0 fits).0
    declared_readable (export_decl name n r) imported exported own outer is es formed ni ne fits = (one_reached exported name ne.0 fits).0

    within_readable : (ds : Decls) (imported exported : List (List ℕ)) (own : Scope) (outer : List Scope) → FormedDeclarations ds own outer
        → AreNew imported (names (decl_imports ds)) → AreNew exported (names (decl_exports ds)) → FitsDecls config ds
        → AreReadableDecls config ds imported exported
    within_readable no_decls imported exported own outer formed ni ne fits = tt
    within_readable (then_decls d ds) imported exported own outer formed ni ne fits = (
      declared_readable d imported exported own outer (decl_imports ds) (decl_exports ds) formed.0 ni ne fits.0,
      within_readable ds (imported ++ names (import_of d)) (exported ++ names (export_of d)) (after_decl outer own d) outer formed.1
          (later import_of imported d (decl_imports ds) ni) (later export_of exported d (decl_exports ds) ne) fits.1,
    )

  types_readable : (ts : List Entry) (own : Scope) (outer : List Scope) → FormedTypes ts own outer → AllByRecursion (FitsType config) ts
      → AllByRecursion (IsReadableType config) ts
  types_readable [] own outer formed fits = tt
  types_readable (t ∷ ts) own outer formed fits =
      (entry_readable t own outer formed.0 fits.0.fits, types_readable ts (with_type own t) outer formed.1 fits.1)

  -- components

  extern_reached : {A : Type 0} (name : A → List ℕ) (before xs : List A) → Named (map name (before ++ xs)) → AreShort config (map name xs)
      → AreReachable max (map name before) (map name xs)
  extern_reached name before xs named short =
      reached (map name before) (map name xs)
      (behind_new (map name before) (map name xs) (subst (IsDistinct bytes_eq) (map-append name before xs) named.1)) short

  mutual
    parts_readable : (t : Tree) (outer : List Scope) (before : Tree) → Formed t outer before → Fits config t → IsReadableRest config t before
    parts_readable ends outer before formed fits = tt
    parts_readable (first p t) outer before formed fits =
        (part_readable p outer before formed.0 fits.0, parts_readable t outer (add before p) formed.1 fits.1)

    part_readable : (p : Part) (outer : List Scope) (before : Tree) → FormedPart p outer before → FitsPart config p → IsReadablePart config p before
    part_readable (custom name contents) outer before formed fits = fits.0
    part_readable (core_module text) outer before formed fits = fits
    part_readable (core_types ts) outer before formed fits = cores_readable ts (scope_of before) formed fits
    part_readable (component t) outer before formed fits = parts_readable t (scope_of before ∷ outer) ends formed fits.1
    part_readable (types ts) outer before formed fits = types_readable ts (scope_of before) outer formed fits
    part_readable (canons fs) outer before formed fits = tt
    part_readable (imports is) outer before formed fits = extern_reached (λ (i : ImportEntry). i.name) (imports_of before) is formed.1 fits
    part_readable (exports es) outer before formed fits =
        (fits.0, extern_reached (λ (e : ExportEntry). e.name) (exports_of before) es formed.1 fits.1)

pub fit_readable : (config : Config) (t : Tree) → WellFormed t → Fits config t → IsReadable config t
fit_readable config t formed fits = parts_readable config t [] ends formed fits
