-- A module type that is well formed and within the limits: each of its declarations can be said after those before it.
use Rattle.std.proofs.Common.{◌≡◌, ◌+◌, ◌<◌, ◌≤◌, ◌^◌, Bool, true, false, List, [], ◌∷◌, ◌++◌, length, refl, sym, ap, ◌∙◌, subst, arith, append_assoc}
use Rattle.std.proofs.Common.{length-append}
use Rattle.std.proofs.lemmas.Grind.{flat_map-append}
use Rattle.std.specs.List.{AllByRecursion, filter}
use Rattle.std.specs.Prelude.{if◌then◌else◌}
use Rattle.smith_input.specs.Loops.{Along}
use Rattle.smith_format.specs.CoreFormed.{FormedFunction}
use Rattle.smith_format.specs.CoreTypes.{Function}
use Rattle.smith_format.specs.Entities.{kind_of}
use Rattle.smith_format.specs.Limits.{configured, max_results}
use Rattle.smith_format.specs.declared.config.Config.{Config}
use Rattle.smith_format.specs.declared.types.EntityType.{EntityType}
use Rattle.smith_format.specs.declared.types.EntityType.TheVariants.{Func, Table, Memory, Global, Tag}
use Rattle.smith_format.specs.declared.types.ExportKind.{ExportKind}
use Rattle.smith_format.specs.declared.types.ExportKind.TheVariants as kind
use Rattle.smith_syntax.specs.CoreLimits.{EntityLimits, ModuleLimits}
use Rattle.smith_syntax.specs.Entries.{ModuleDecl, imports, declares, aliases, exports}
use Rattle.smith_syntax.specs.ModuleTypes.{adds, count_of_kind, declared_in, entities_in, entities_of, func_of, is_of_kind, type_count}
use Rattle.smith_syntax.specs.Scope.{Scope}
use Rattle.smith_syntax.specs.WellFormed.{FormedDecl, FormedDecls}
use Rattle.smith_tree.specs.CoreTypeOffers.{Declared, with_decl}
use Rattle.smith_tree.specs.ReadableCoreTypes.{AreReadableModuleDecls}
use Rattle.smith_types.proofs.MakingCore.{alias_adds}
use Rattle.smith_types.proofs.ModuleScript.{IsSayable}
use Rattle.smith_types.proofs.ModuleTypes.{DeclFits, EntityFits, count_both, limit_of, types_both}
use Rattle.smith_input.proofs.Lists.{all_back}

at_most_one : (b : Bool) (e : EntityType) → length (if b then e ∷ [] else []) ≤ 1
at_most_one true e = omega arith
at_most_one false e = omega arith

count_one : (k : ExportKind) (d : ModuleDecl) → count_of_kind k (d ∷ []) ≤ 1
count_one k (imports m n e) = at_most_one (is_of_kind k e) e
count_one k (exports n e) = at_most_one (is_of_kind k e) e
count_one k d = omega arith

-- Each declaration is counted once at most.
pub count_small : (k : ExportKind) (ds : List ModuleDecl) → count_of_kind k ds ≤ length ds
count_small k [] = omega arith
count_small k (d ∷ ds) = omega (arith, count_both k (d ∷ []) ds, count_one k d, count_small k ds)

-- There are no more own types than declarations.
types_few : (ds : List ModuleDecl) → type_count ds ≤ length ds
types_few [] = omega arith
types_few (imports m n e ∷ ds) = omega (arith, types_few ds)
types_few (d ∷ ds) = omega (arith, types_few ds)

own_kind : (e : EntityType) → is_of_kind (kind_of e) e ≡ true
own_kind (Func i) = refl
own_kind e = refl

-- what is first counts among its kind
own_count : (e : EntityType) (ds : List ModuleDecl) (es : List EntityType) → entities_of ds ≡ e ∷ es → 0 < count_of_kind (kind_of e) ds
own_count e ds es first =
    let k : ExportKind = kind_of e in
    let here : length (filter (is_of_kind k) (e ∷ es)) ≡ length (e ∷ filter (is_of_kind k) es) =
    ap (λ b. length (if b then e ∷ filter (is_of_kind k) es else filter (is_of_kind k) es)) (own_kind e) in
    let count : count_of_kind k ds ≡ length (e ∷ filter (is_of_kind k) es) = ap (λ z. length (filter (is_of_kind k) z)) first ∙ here in
    omega (arith, count)

module _ (config : Config) (around : Scope) (whole : List ModuleDecl) (limits : ModuleLimits config whole) where
  count_limit : (k : ExportKind) → count_of_kind k whole ≤ limit_of config k
  count_limit kind.Func = limits.funcs
  count_limit kind.Table = limits.tables
  count_limit kind.Memory = limits.memories
  count_limit kind.Global = limits.globals
  count_limit kind.Tag = limits.tags

  entity_fits : (before ds : List ModuleDecl) (e : EntityType) (es : List EntityType) → whole ≡ before ++ ds → entities_of ds ≡ e ∷ es
      → EntityFits config before e
  entity_fits before ds e es split first =
      let all : AllByRecursion (EntityLimits config) (entities_of before ++ (e ∷ es)) =
      subst (AllByRecursion (EntityLimits config)) (ap entities_of split ∙ (flat_map-append entities_in before ds ∙ ap (λ z. entities_of before ++ z) first))
      limits.entities in
      let count = ap (count_of_kind (kind_of e)) split ∙ count_both (kind_of e) before ds in (
        (all_back (EntityLimits config) (entities_of before) (e ∷ es) all).0,
        omega (arith, own_count e ds es first, count, count_limit (kind_of e)),
      )

  decl_fits : (own : List Function) (before : List ModuleDecl) (d : ModuleDecl) (ds : List ModuleDecl) → whole ≡ before ++ d ∷ ds
      → type_count before ≡ length own → FormedDecl around.core_types own d → DeclFits config around.core_types own before d
  decl_fits own before (imports m n e) ds split counted formed = entity_fits before (imports m n e ∷ ds) e (entities_of ds) split refl
  decl_fits own before (declares f) ds split counted formed =
      let Fits : Function → Type 0 = FormedFunction (configured config) (max_results config) in
      let all : AllByRecursion Fits (declared_in before ++ f ∷ declared_in ds) =
      subst (AllByRecursion Fits) (ap declared_in split ∙ flat_map-append func_of before (declares f ∷ ds)) limits.functions in
      let count = ap type_count split ∙ types_both before (declares f ∷ ds) in
      ((all_back Fits (declared_in before) (f ∷ declared_in ds) all).0, omega (arith, count, counted, limits.types))
  decl_fits own before (aliases count i) ds split counted formed =
      let total = ap type_count split ∙ types_both before (aliases count i ∷ ds) in
      (formed, omega (arith, total, counted, limits.types))
  decl_fits own before (exports n e) ds split counted formed = entity_fits before (exports n e ∷ ds) e (entities_of ds) split refl

  -- the own types are counted
  adds_counted : (own : List Function) (d : ModuleDecl) → FormedDecl around.core_types own d → length (adds around.core_types own d) ≡ type_count (d ∷ [])
  adds_counted own (aliases count i) formed = ap length (alias_adds around.core_types own count i formed.0 formed.1)
  adds_counted own d formed = refl

  more_counted : (own : List Function) (before : List ModuleDecl) (d : ModuleDecl) → type_count before ≡ length own → FormedDecl around.core_types own d
      → type_count (before ++ d ∷ []) ≡ length (own ++ adds around.core_types own d)
  more_counted own before d counted formed =
      omega (arith, types_both before (d ∷ []), counted, adds_counted own d formed, length-append own (adds around.core_types own d))

  -- What follows a part of the declarations can be said after it.
  pub decls_sayable : length whole + length around.core_types ≤ 2 ^ 64 → config.max_name_length < 2 ^ 64 → (s : Declared) (ds : List ModuleDecl)
      → whole ≡ s.decls ++ ds
      → type_count s.decls ≡ length s.own → FormedDecls around.core_types s.own ds → AreReadableModuleDecls config s.decls ds → length ds < s.fuel
      → Along (IsSayable config around) (with_decl around.core_types) s ds
  decls_sayable few short s [] split counted formed texts lasts = tt
  decls_sayable few short s (d ∷ ds) split counted formed texts lasts =
      let next : Declared = with_decl around.core_types s d in
      let long = ap length split ∙ length-append s.decls (d ∷ ds) in (
        record {
          lasts = omega (arith, lasts);
          few = omega (arith, few, counted, types_few s.decls, long);
          fits = decl_fits s.own s.decls d ds split counted formed.0;
          formed = formed.0;
          text = texts.0;
          names = short;
        },
        decls_sayable few short next ds (split ∙ sym (append_assoc s.decls (d ∷ []) ds)) (more_counted s.own s.decls d counted formed.0) formed.1 texts.1
            (omega (arith, lasts)),
      )
