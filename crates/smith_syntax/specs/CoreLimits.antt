-- The limits of a config within a core type.
use Rattle.std.specs.Prelude.{◌≡◌, ◌⊎◌, ◌≤◌, true, List}
use Rattle.std.specs.List.{AllByRecursion, Contains}
use Rattle.smith_format.specs.Limits.{configured, max_results}
use Rattle.smith_format.specs.CoreFormed.{FormedFunction}
use Rattle.smith_format.specs.declared.config.Config.{Config}
use Rattle.smith_format.specs.declared.types.EntityType.{EntityType}
use Rattle.smith_format.specs.declared.types.EntityType.TheVariants.{Func, Table, Memory, Global, Tag}
use Rattle.smith_format.specs.declared.types.ExportKind.TheVariants as kind
use Rattle.smith_format.specs.declared.types.RefType.TheVariants.{FuncRef}
use Rattle.smith_syntax.specs.Entries.{CoreEntry, ModuleDecl, core_func, core_module}
use Rattle.smith_syntax.specs.ModuleTypes.{declared_in, entities_of, type_count, count_of_kind}
use Rattle.smith_syntax.specs.WellFormed.{core_size}

-- Tables hold functions, or anything if there are reference types; globals are of the configured value types; and tags
-- are allowed only if there are exceptions.
abbrev pub EntityLimits : Config → EntityType → Type 0
EntityLimits config (Func i) = Unit {0}
EntityLimits config (Table t) = (t.element_type ≡ FuncRef) ⊎ (config.reference_types_enabled ≡ true)
EntityLimits config (Memory m) = Unit {0}
EntityLimits config (Global g) = Contains (configured config) g.val_type
EntityLimits config (Tag t) = config.exceptions_enabled ≡ true

-- a module type of these declarations
pub record ModuleLimits (config : Config) (ds : List ModuleDecl) : Type 0 where
  pub functions : AllByRecursion (FormedFunction (configured config) (max_results config)) (declared_in ds)
  pub entities : AllByRecursion (EntityLimits config) (entities_of ds)
  pub types : type_count ds ≤ config.max_types
  pub globals : count_of_kind kind.Global ds ≤ config.max_globals
  pub tables : count_of_kind kind.Table ds ≤ config.max_tables
  pub memories : count_of_kind kind.Memory ds ≤ config.max_memories
  pub tags : count_of_kind kind.Tag ds ≤ config.max_tags
  pub funcs : count_of_kind kind.Func ds ≤ config.max_funcs
  pub declarations : core_size (core_module ds) ≤ 100

abbrev pub CoreLimits : Config → CoreEntry → Type 0
CoreLimits config (core_func f) = FormedFunction (configured config) (max_results config) f
CoreLimits config (core_module ds) = ModuleLimits config ds
