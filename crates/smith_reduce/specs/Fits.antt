-- Which components fit limits, apart from how many entries they have: each name can be read as it is, and what is in types and in core
-- modules is allowed. If such a component is well formed, nothing keeps it from being generated but counts.
use Rattle.std.specs.Prelude.{ℕ, ◌<◌, ◌≤◌, List, [], map, length}
use Rattle.std.specs.List.{AllByRecursion}
use Rattle.std.specs.Str.{IsUtf8}
use Rattle.smith_format.specs.CoreFormed.{FormedFunction}
use Rattle.smith_format.specs.Limits.{configured, max_results}
use Rattle.smith_format.specs.declared.config.Config.{Config}
use Rattle.smith_format.specs.declared.types.ExportKind.TheVariants as kind
use Rattle.smith_syntax.specs.CoreLimits.{CoreLimits, EntityLimits}
use Rattle.smith_syntax.specs.Entries.{CoreEntry, core_func, core_module as module_type}
use Rattle.smith_syntax.specs.Entries.{ModuleDecl, imports as imports_one, declares, aliases, exports as exports_one}
use Rattle.smith_syntax.specs.Entries.{DefValType, record_type, variant_type, flags_type, enum_type, Entry, defined, function, component_type, instance_type}
use Rattle.smith_syntax.specs.Entries.{Decl, Decls, core_type_decl, type_decl, import_decl, export_decl, no_decls, then_decls, decl_count}
use Rattle.smith_syntax.specs.ModuleTypes.{after_front, count_of_kind, entities_in, func_of, type_count}
use Rattle.smith_tree.specs.CoreTypeNeeds.{core_need}
use Rattle.smith_tree.specs.Readable.{IsFinishable, StandsForModule}
use Rattle.smith_tree.specs.ReadableCoreTypes.{IsReadableText}
use Rattle.smith_tree.specs.Tree.{Part, Tree, ends, first, custom, core_module, core_types, component, types, canons, imports, exports}
use Rattle.smith_tree.specs.TypeNeeds.{need}
use Rattle.smith_tree.specs.WellFormed.{export_names, import_names}

-- Names that can be read as they are.
abbrev pub AreShort : Config → List (List ℕ) → Type 0
AreShort config names = AllByRecursion (λ n. length n ≤ config.max_name_length) names

-- The names within a type of values.
abbrev pub labels : DefValType → List (List ℕ)
labels (record_type fs) = map (λ f. f.0) fs
labels (variant_type cs) = map (λ c. c.0) cs
labels (flags_type ns) = ns
labels (enum_type ns) = ns
labels _ = []

-- The function type that a declaration of a module type declares, or what it imports or exports, is allowed.
abbrev pub AllowsDecl : Config → ModuleDecl → Type 0
AllowsDecl config d =
    AllByRecursion (FormedFunction (configured config) (max_results config)) (func_of d) × AllByRecursion (EntityLimits config) (entities_in d)

-- A module type has no more of each kind than the limits allow.
pub record KeepsCounts (config : Config) (ds : List ModuleDecl) : Type 0 where
  pub types : type_count ds ≤ config.max_types
  pub globals : count_of_kind kind.Global ds ≤ config.max_globals
  pub tables : count_of_kind kind.Table ds ≤ config.max_tables
  pub memories : count_of_kind kind.Memory ds ≤ config.max_memories
  pub tags : count_of_kind kind.Tag ds ≤ config.max_tags
  pub functions : count_of_kind kind.Func ds ≤ config.max_funcs

-- The names of a declaration of a module type.
abbrev pub HasReadableTexts : Config → ModuleDecl → Type 0
HasReadableTexts config (declares f) = Unit {0}
HasReadableTexts config (imports_one from name e) = IsReadableText config from × IsReadableText config name
HasReadableTexts config (aliases count i) = Unit {0}
HasReadableTexts config (exports_one name e) = IsReadableText config name

-- The names within a core type. Those that the canonical ABI asks for are not read.
abbrev pub HasReadableNames : Config → CoreEntry → Type 0
HasReadableNames config (core_func f) = Unit {0}
HasReadableNames config (module_type ds) = AllByRecursion (HasReadableTexts config) (after_front ds)

-- It is within the limits of core types, and its names can be read.
pub record FitsCore (config : Config) (t : CoreEntry) : Type 0 where
  pub limits : CoreLimits config t
  pub names : HasReadableNames config t

abbrev mutual
  pub FitsEntry : Config → Entry → Type 0
  FitsEntry config (defined t) = AreShort config (labels t)
  FitsEntry config (function s) = AreShort config (map (λ p. p.0) s.params)
  FitsEntry config (component_type ds) = (decl_count ds ≤ 100) × FitsDecls config ds
  FitsEntry config (instance_type ds) = (decl_count ds ≤ 100) × FitsDecls config ds

  pub FitsDecl : Config → Decl → Type 0
  FitsDecl config (core_type_decl t k) = FitsCore config t
  FitsDecl config (type_decl e) = FitsEntry config e
  FitsDecl config (import_decl name n r) = length name ≤ config.max_name_length
  FitsDecl config (export_decl name n r) = length name ≤ config.max_name_length
  FitsDecl config _ = Unit {0}

  pub FitsDecls : Config → Decls → Type 0
  FitsDecls config no_decls = Unit {0}
  FitsDecls config (then_decls d ds) = FitsDecl config d × FitsDecls config ds

-- It needs no more fuel than there is.
pub record FitsType (config : Config) (e : Entry) : Type 0 where
  pub fits : FitsEntry config e
  pub small : need e ≤ config.max_type_size

pub record FitsCoreType (config : Config) (t : CoreEntry) : Type 0 where
  pub fits : FitsCore config t
  pub small : core_need t ≤ config.max_type_size

abbrev mutual
  pub FitsPart : Config → Part → Type 0
  FitsPart config (custom name contents) = IsUtf8 name × (length name ≤ 1000)
  FitsPart config (core_module text) = StandsForModule config text
  FitsPart config (core_types ts) = AllByRecursion (FitsCoreType config) ts
  FitsPart config (component t) = IsFinishable config t × Fits config t
  FitsPart config (types ts) = AllByRecursion (FitsType config) ts
  FitsPart config (canons fs) = Unit {0}
  FitsPart config (imports is) = AreShort config (import_names is)
  FitsPart config (exports es) = (0 < config.max_exports) × AreShort config (export_names es)

  pub Fits : Config → Tree → Type 0
  Fits config ends = Unit {0}
  Fits config (first p t) = FitsPart config p × Fits config t
