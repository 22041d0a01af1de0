-- What is in types that can be generated.
use Rattle.std.proofs.Common.{◌≡◌, ℕ, suc, ◌+◌, ◌<◌, ◌≤◌, ◌^◌, Bool, true, false, if◌then◌else◌, List, [], ◌∷◌, ◌++◌, length, map, refl, sym, ap, ◌∙◌, subst}
use Rattle.std.proofs.Common.{append-nil, append_assoc, arith, bytes_eq, codes, filter, flat_map}
use Rattle.std.specs.Prelude.{Option, None, Some}
use Rattle.std.proofs.lemmas.Grind.{flat_map-append}
use Rattle.std.proofs.lemmas.List.{length-map, map-append}
use Rattle.std.proofs.lemmas.List.Elements.{filter-append}
use Rattle.std.proofs.lemmas.Slice.Eq.{bytes_eq-Decides}
use Rattle.std.specs.List.{AllByRecursion}
use Rattle.smith_input.specs.NewNames.{is_among}
use Rattle.smith_input.proofs.Lists.{all_back, all_front}
use Rattle.smith_format.specs.CoreFormed.{FormedFunction}
use Rattle.smith_format.specs.CoreTypes.{Function}
use Rattle.smith_format.specs.Entities.{CoreImport}
use Rattle.smith_format.specs.Limits.{configured, max_results}
use Rattle.smith_format.specs.declared.config.Config.{Config}
use Rattle.smith_format.specs.declared.types.EntityType.{EntityType}
use Rattle.smith_format.specs.declared.types.MemoryType.{MemoryType}
use Rattle.smith_syntax.specs.CoreLimits.{CoreLimits, EntityLimits}
use Rattle.smith_syntax.specs.Entries.{CoreEntry, Decl, Decls, DefValType, Entry, ModuleDecl, aliases, component_type, core_func}
use Rattle.smith_syntax.specs.Entries.{core_module as core_module_type, core_type_alias, core_type_decl, decl_count, declares, defined, enum_type, export_decl}
use Rattle.smith_syntax.specs.Entries.{exports as module_exports, flags_type, function, import_decl, imports as module_imports, instance_type, no_decls}
use Rattle.smith_syntax.specs.Entries.{list_type, option_type, primitive_type, record_type, result_type, then_decls, tuple_type, type_alias, type_decl}
use Rattle.smith_syntax.specs.Entries.{variant_type}
use Rattle.smith_syntax.specs.ModuleTypes.{adds, declared_in, entities_in, entities_of, func_of, module_export_names, module_export_of, module_import_of}
use Rattle.smith_syntax.specs.ModuleTypes.{after_front, names_from}
use Rattle.smith_syntax.specs.Scope.{Scope, after_decl, empty_scope, with_core_type, with_type}
use Rattle.smith_syntax.specs.TypeLimits.{DeclLimits, DeclsLimits, EntryLimits}
use Rattle.smith_syntax.specs.WellFormed.{FormedCore, FormedCores, FormedDecl, FormedDeclaration, FormedDeclarations, FormedDecls, FormedDefined, FormedEntity}
use Rattle.smith_syntax.specs.WellFormed.{FormedEntry, FormedTypes, export_of, import_of, names}
use Rattle.smith_tree.specs.ReadableCoreTypes.{AreReadableModuleDecls, IsReadableCore, IsReadableModuleDecl}
use Rattle.smith_tree.specs.ReadableTypes.{AreReadableDecls, AreReadableNames, IsReadableDecl, IsReadableDefined, IsReadableType}
use Rattle.smith_tree.proofs.FrontFound.{front_decls, fronted, in_front_is, whole_front}
use Rattle.smith_tree.proofs.Fronts.{front_length}
use Rattle.smith_verdict.specs.Contained.{Content, OfCore, OfDecl, OfDecls, OfDefined, OfEntry, OfModuleDecl, OfNames, core_function, entity, module_type, text}
use Rattle.smith_verdict.proofs.GeneratedNames.{AreMade, IsMadeShort, all_made, none_made, none_more, one_made, short_read, short_text_read}

-- It holds of what types within the limits contain: short names, function types, and what module types import, export and declare.
pub record Holds (config : Config) (P : Content → Type 0) : Type 0 where
  pub names : (n : List ℕ) → length n ≤ 1000 → P (text n)
  pub functions : (f : Function) → FormedFunction (configured config) (max_results config) f → P (core_function f)
  pub entities : (own : List Function) (e : EntityType) → EntityLimits config e → FormedEntity own e → P (entity e)
  pub module_types : (ds : List ModuleDecl) → length ds ≤ 105 → P (module_type ds)

-- The names in a module type.

names_more : (from : List ℕ) (ds : List ModuleDecl) (d : ModuleDecl) → names_from from (ds ++ d ∷ []) ≡ names_from from ds ++ names_from from (d ∷ [])
names_more from ds d =
    let is = flat_map module_import_of ds in
    let js = flat_map module_import_of (d ∷ []) in
    ap (λ (z : List CoreImport). map (λ i. i.1) (filter (λ i. bytes_eq i.0 from) z)) (flat_map-append module_import_of ds (d ∷ []))
    ∙ ap (map (λ i. i.1)) (filter-append (λ i. bytes_eq i.0 from) is js)
    ∙ map-append (λ i. i.1) (filter (λ i. bytes_eq i.0 from) is) (filter (λ i. bytes_eq i.0 from) js)

exported_more : (ds : List ModuleDecl) (d : ModuleDecl) → module_export_names (ds ++ d ∷ []) ≡ module_export_names ds ++ module_export_names (d ∷ [])
exported_more ds d =
    ap (map (λ x. x.0)) (flat_map-append module_export_of ds (d ∷ []))
    ∙ map-append (λ x. x.0) (flat_map module_export_of ds) (flat_map module_export_of (d ∷ []))

-- what these declarations import and export
record ModuleNames (most : ℕ) (ds : List ModuleDecl) : Type 0 where
  imported : (from : List ℕ) → AreMade most (names_from from ds)
  exported : AreMade most (module_export_names ds)

no_module_names : ModuleNames 0 []
no_module_names = record { imported = λ from. none_made; exported = none_made }

-- one more, by what it imports and exports itself
module_names_more : (most : ℕ) (ds : List ModuleDecl) (d : ModuleDecl)
    → ((from : List ℕ) → AreMade (suc most) (names_from from ds ++ names_from from (d ∷ [])))
    → AreMade (suc most) (module_export_names ds ++ module_export_names (d ∷ [])) → ModuleNames (suc most) (ds ++ d ∷ [])
module_names_more most ds d imported exported = record {
  imported = λ from. subst (AreMade (suc most)) (sym (names_more from ds d)) (imported from);
  exported = subst (AreMade (suc most)) (sym (exported_more ds d)) exported;
}

module_names_same : (most : ℕ) (ds : List ModuleDecl) → ModuleNames most ds → (from : List ℕ) → AreMade (suc most) (names_from from ds ++ [])
module_names_same most ds k from = none_more (names_from from ds) (omega arith) (k.imported from)

-- the name of an import is one more from its module
imported_more : (most : ℕ) (ds : List ModuleDecl) (m n : List ℕ) (e : EntityType) → ModuleNames most ds → AreMade (suc most) (names_from m ds ++ n ∷ [])
    → (from : List ℕ) → AreMade (suc most) (names_from from ds ++ names_from from (module_imports m n e ∷ []))
imported_more most ds m n e k made from = by_test (bytes_eq m from) refl
  where
    by_test : (b : Bool) → bytes_eq m from ≡ b
        → AreMade (suc most) (names_from from ds ++ map (λ (i : CoreImport). i.1) (if b then (m, n, e) ∷ [] else []))
    by_test true same = subst (λ f. AreMade (suc most) (names_from f ds ++ n ∷ [])) ((bytes_eq-Decides m from).0 same) made
    by_test false other = module_names_same most ds k from

-- The names of these declarations, each after those before it, are made of short texts.
abbrev IsShortDecl : List ModuleDecl → ModuleDecl → Type 0
IsShortDecl before (module_imports from name e) = (length from ≤ 1000) × IsMadeShort (names_from from before) name
IsShortDecl before (module_exports name e) = IsMadeShort (module_export_names before) name
IsShortDecl before (declares f) = Unit {0}
IsShortDecl before (aliases count i) = Unit {0}

abbrev AreShortDecls : List ModuleDecl → List ModuleDecl → Type 0
AreShortDecls before [] = Unit {0}
AreShortDecls before (d ∷ ds) = IsShortDecl before d × AreShortDecls (before ++ d ∷ []) ds

short_decls_joined : (before front back : List ModuleDecl) → AreShortDecls before front → AreShortDecls (before ++ front) back
    → AreShortDecls before (front ++ back)
short_decls_joined before [] back front_short short = subst (λ z. AreShortDecls z back) (append-nil before) short
short_decls_joined before (d ∷ ds) back front_short short = (
  front_short.0,
  short_decls_joined (before ++ d ∷ []) ds back front_short.1 (subst (λ z. AreShortDecls z back) (sym (append_assoc before (d ∷ []) ds)) short),
)

-- a short name that is new is made of itself
short_itself : (names : List (List ℕ)) (name : List ℕ) → length name ≤ 101 → is_among names name ≡ false → IsMadeShort names name
short_itself names name short new = (name, short, record { times = 0; name_is = refl; taken = λ m b. absurd (omega (arith, b)); is_new = new })

-- What the canonical ABI asks for has short names.
front_short : (m : Option MemoryType) (r f : Bool) → AreShortDecls [] (front_decls m r f)
front_short None false false = tt
front_short None true false = (tt, (short_itself [] (codes "canonical_abi_realloc") (omega arith) refl, tt))
front_short None false true = (tt, (short_itself [] (codes "canonical_abi_free") (omega arith) refl, tt))
front_short None true true = (
  tt,
  (
    short_itself [] (codes "canonical_abi_realloc") (omega arith) refl,
    (tt, (short_itself (codes "canonical_abi_realloc" ∷ []) (codes "canonical_abi_free") (omega arith) refl, tt)),
  ),
)
front_short (Some m) false false = (short_itself [] (codes "memory") (omega arith) refl, tt)
front_short (Some m) true false =
    (short_itself [] (codes "memory") (omega arith) refl, (tt, (short_itself (codes "memory" ∷ []) (codes "canonical_abi_realloc") (omega arith) refl, tt)))
front_short (Some m) false true =
    (short_itself [] (codes "memory") (omega arith) refl, (tt, (short_itself (codes "memory" ∷ []) (codes "canonical_abi_free") (omega arith) refl, tt)))
front_short (Some m) true true = (
  short_itself [] (codes "memory") (omega arith) refl,
  (
    tt,
    (
      short_itself (codes "memory" ∷ []) (codes "canonical_abi_realloc") (omega arith) refl,
      (tt, (short_itself (codes "memory" ∷ codes "canonical_abi_realloc" ∷ []) (codes "canonical_abi_free") (omega arith) refl, tt)),
    ),
  ),
)

module _ (config : Config) (few_bytes : config.max_name_length ≤ 100) where
  short_decl : (before : List ModuleDecl) (d : ModuleDecl) → IsReadableModuleDecl config before d → IsShortDecl before d
  short_decl before (module_imports from name e) read = (
    (let short = read.0.1 in omega (arith, short, few_bytes)),
    short_text_read config.max_name_length few_bytes (names_from from before) name read.1.1,
  )
  short_decl before (module_exports name e) read =
      short_text_read config.max_name_length few_bytes (module_export_names before) name read.1
  short_decl before (declares f) read = tt
  short_decl before (aliases count i) read = tt

  short_decls : (before ds : List ModuleDecl) → AreReadableModuleDecls config before ds → AreShortDecls before ds
  short_decls before [] read = tt
  short_decls before (d ∷ ds) read = (short_decl before d read.0, short_decls (before ++ d ∷ []) ds read.1)

  -- So have all declarations of a module type that can be read.
  all_short : (ds : List ModuleDecl) → IsReadableCore config (core_module_type ds) → AreShortDecls [] ds
  all_short ds read =
      let x = fronted ds in
      let front : List ModuleDecl = front_decls x.memory x.reallocs x.frees in
      let behind : AreReadableModuleDecls config front (after_front ds) =
      subst (λ z. AreReadableModuleDecls config z (after_front ds)) (in_front_is ds front (after_front ds) (whole_front x)) read in
      subst (AreShortDecls []) (sym (whole_front x))
      (short_decls_joined [] front (after_front ds) (front_short x.memory x.reallocs x.frees) (short_decls front (after_front ds) behind))

module _ (config : Config) (few_bytes : config.max_name_length ≤ 100) (P : Content → Type 0) (holds : Holds config P) where
  of_names : (ns : List (List ℕ)) → AllByRecursion (λ n. length n ≤ 1000) ns → OfNames P ns
  of_names [] all = tt
  of_names (n ∷ ns) all = (holds.names n all.0, of_names ns all.1)

  -- names that are read one after another
  of_new_names : (ns : List (List ℕ)) → length ns ≤ 100 → AreReadableNames config ns → OfNames P ns
  of_new_names ns few read = of_names ns (all_made config.max_name_length few_bytes 0 [] ns (omega (arith, few)) none_made read).0

  -- Core types.

  of_module_decl : (around : List CoreEntry) (own : List Function) (most : ℕ) (before : List ModuleDecl) (d : ModuleDecl) → most < 2 ^ 32
      → ModuleNames most before → FormedDecl around own d → AllByRecursion (FormedFunction (configured config) (max_results config)) (func_of d)
      → AllByRecursion (EntityLimits config) (entities_in d) → IsShortDecl before d → OfModuleDecl P d × ModuleNames (suc most) (before ++ d ∷ [])
  of_module_decl around own most before (declares f) few k formed functions entities read = (
    holds.functions f functions.0,
    module_names_more most before (declares f) (module_names_same most before k) (none_more (module_export_names before) (omega arith) k.exported),
  )
  of_module_decl around own most before (aliases count i) few k formed functions entities read = (
    tt,
    module_names_more most before (aliases count i) (module_names_same most before k) (none_more (module_export_names before) (omega arith) k.exported),
  )
  of_module_decl around own most before (module_imports m n e) few k formed functions entities read =
      let made = one_made most (names_from m before) n few (k.imported m) read.1 in (
        (holds.names m read.0, holds.names n made.0, holds.entities own e entities.0 formed),
        module_names_more most before (module_imports m n e) (imported_more most before m n e k made.1)
            (none_more (module_export_names before) (omega arith) k.exported),
      )
  of_module_decl around own most before (module_exports n e) few k formed functions entities read =
      let made = one_made most (module_export_names before) n few k.exported read in (
        (holds.names n made.0, holds.entities own e entities.0 formed),
        module_names_more most before (module_exports n e) (module_names_same most before k) made.1,
      )

  of_module_decls : (around : List CoreEntry) (own : List Function) (most : ℕ) (before ds : List ModuleDecl) → most + length ds ≤ 1000
      → ModuleNames most before → FormedDecls around own ds → AllByRecursion (FormedFunction (configured config) (max_results config)) (declared_in ds)
      → AllByRecursion (EntityLimits config) (entities_of ds) → AreShortDecls before ds → AllByRecursion (OfModuleDecl P) ds
  of_module_decls around own most before [] few k formed functions entities read = tt
  of_module_decls around own most before (d ∷ ds) few k formed functions entities read =
      let F : Function → Type 0 = FormedFunction (configured config) (max_results config) in
      let E : EntityType → Type 0 = EntityLimits config in
      let one = of_module_decl around own most before d (omega (arith, few)) k formed.0 (all_front F (func_of d) (declared_in ds) functions)
      (all_front E (entities_in d) (entities_of ds) entities) read.0 in (
        one.0,
        of_module_decls around (own ++ adds around own d) (suc most) (before ++ d ∷ []) ds (omega (arith, few)) one.1 formed.1
            (all_back F (func_of d) (declared_in ds) functions) (all_back E (entities_in d) (entities_of ds) entities) read.1,
      )

  of_core : (e : CoreEntry) (around : List CoreEntry) → FormedCore e around → CoreLimits config e → IsReadableCore config e → OfCore P e
  of_core (core_func f) around formed limits read = holds.functions f limits
  of_core (core_module_type ds) around formed limits read =
      let few : length ds ≤ 105 = omega (arith, front_length ds, limits.declarations) in (
        holds.module_types ds few,
        of_module_decls around [] 0 [] ds (omega (arith, few)) no_module_names formed.0 limits.functions limits.entities
            (all_short config few_bytes ds read),
      )

  pub of_cores : (es : List CoreEntry) (own : Scope) → FormedCores es own → AllByRecursion (CoreLimits config) es → AllByRecursion (IsReadableCore config) es
      → AllByRecursion (OfCore P) es
  of_cores [] own formed limits read = tt
  of_cores (e ∷ es) own formed limits read =
      (of_core e own.core_types formed.0 limits.0 read.0, of_cores es (with_core_type own e) formed.1 limits.1 read.1)

  -- Types.

  of_defined : (t : DefValType) (own : Scope) → FormedDefined t own → IsReadableDefined config t → OfDefined P t
  of_defined (record_type fs) own formed read =
      of_new_names (names fs) (let few = formed.3 in omega (arith, few, length-map fs (λ f. f.0))) read
  of_defined (variant_type cs) own formed read =
      of_new_names (names cs) (let few = formed.3 in omega (arith, few, length-map cs (λ c. c.0))) read
  of_defined (flags_type ns) own formed read = of_new_names ns (let few = formed.2 in omega (arith, few)) read
  of_defined (enum_type ns) own formed read = of_new_names ns formed.2 read
  of_defined (primitive_type p) own formed read = tt
  of_defined (list_type v) own formed read = tt
  of_defined (tuple_type vs) own formed read = tt
  of_defined (option_type v) own formed read = tt
  of_defined (result_type ok err) own formed read = tt

  -- the names of the imports and of the exports before a declaration
  record DeclNames (most : ℕ) (imported exported : List (List ℕ)) : Type 0 where
    imports : AreMade most imported
    exports : AreMade most exported

  no_decl_names : DeclNames 0 [] []
  no_decl_names = record { imports = none_made; exports = none_made }

  none_named : (most : ℕ) (imported exported : List (List ℕ)) → DeclNames most imported exported → DeclNames (suc most) (imported ++ []) (exported ++ [])
  none_named most imported exported ns = record {
    imports = none_more imported (omega arith) ns.imports;
    exports = none_more exported (omega arith) ns.exports;
  }

  mutual
    of_entry : (e : Entry) (own : Scope) (outer : List Scope) → FormedEntry e own outer → EntryLimits config e → IsReadableType config e → OfEntry P e
    of_entry (defined t) own outer formed limits read = of_defined t own formed read
    of_entry (function s) own outer formed limits read =
        of_new_names (names s.params) (let few = formed.2 in omega (arith, few, length-map s.params (λ p. p.0))) read
    of_entry (component_type ds) own outer formed limits read =
        of_decls ds empty_scope (own ∷ outer) 0 [] [] (let few = limits.0 in omega (arith, few)) no_decl_names formed.0 limits.1 read
    of_entry (instance_type ds) own outer formed limits read =
        of_decls ds empty_scope (own ∷ outer) 0 [] [] (let few = limits.0 in omega (arith, few)) no_decl_names formed.0 limits.1 read

    of_decl : (d : Decl) (own : Scope) (outer : List Scope) (most : ℕ) (imported exported : List (List ℕ)) → most < 2 ^ 32
        → DeclNames most imported exported → FormedDeclaration d own outer → DeclLimits config d → IsReadableDecl config d imported exported
        → OfDecl P d × DeclNames (suc most) (imported ++ names (import_of d)) (exported ++ names (export_of d))
    of_decl (core_type_decl t k) own outer most imported exported few ns formed limits read =
        (of_core t own.core_types formed limits read, none_named most imported exported ns)
    of_decl (type_decl e) own outer most imported exported few ns formed limits read =
        (of_entry e own outer formed limits read, none_named most imported exported ns)
    of_decl (type_alias count i k) own outer most imported exported few ns formed limits read = (tt, none_named most imported exported ns)
    of_decl (core_type_alias count i k) own outer most imported exported few ns formed limits read = (tt, none_named most imported exported ns)
    of_decl (import_decl name n r) own outer most imported exported few ns formed limits read =
        let made = one_made most imported name few ns.imports (short_read config.max_name_length few_bytes imported name read) in
        (holds.names name made.0, record { imports = made.1; exports = none_more exported (omega arith) ns.exports })
    of_decl (export_decl name n r) own outer most imported exported few ns formed limits read =
        let made = one_made most exported name few ns.exports (short_read config.max_name_length few_bytes exported name read) in
        (holds.names name made.0, record { imports = none_more imported (omega arith) ns.imports; exports = made.1 })

    of_decls : (ds : Decls) (own : Scope) (outer : List Scope) (most : ℕ) (imported exported : List (List ℕ)) → most + decl_count ds ≤ 100
        → DeclNames most imported exported → FormedDeclarations ds own outer → DeclsLimits config ds → AreReadableDecls config ds imported exported
        → OfDecls P ds
    of_decls no_decls own outer most imported exported few ns formed limits read = tt
    of_decls (then_decls d ds) own outer most imported exported few ns formed limits read =
        let one = of_decl d own outer most imported exported (omega (arith, few)) ns formed.0 limits.0 read.0 in (
          one.0,
          of_decls ds (after_decl outer own d) outer (suc most) (imported ++ names (import_of d)) (exported ++ names (export_of d)) (omega (arith, few)) one.1
              formed.1 limits.1 read.1,
        )

  pub of_types : (es : List Entry) (own : Scope) (outer : List Scope) → FormedTypes es own outer → AllByRecursion (EntryLimits config) es
      → AllByRecursion (IsReadableType config) es → AllByRecursion (OfEntry P) es
  of_types [] own outer formed limits read = tt
  of_types (e ∷ es) own outer formed limits read =
      (of_entry e own outer formed.0 limits.0 read.0, of_types es (with_type own e) outer formed.1 limits.1 read.1)
