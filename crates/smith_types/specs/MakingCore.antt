-- A module type as the program makes it: what it keeps beside the declarations, and what one call adds.
use Rattle.std.specs.Prelude.{◌≡◌, ℕ, ◌+◌, ◌-◌, ◌<◌, ◌≤◌, Bool, true, false, List, [], ◌∷◌, ◌++◌, map, length, Option, Some, MatchOption}
use Rattle.std.specs.declared.alloc.Global.{Global}
use Rattle.std.specs.declared.rc.Rc.{Rc}
use Rattle.smith_format.specs.CoreTypes.{Function}
use Rattle.smith_format.specs.Shown.{shown_func}
use Rattle.smith_format.specs.declared.config.Config.{Config}
use Rattle.smith_format.specs.declared.types.EntityType.{EntityType}
use Rattle.smith_format.specs.declared.types.ExportKind.{ExportKind}
use Rattle.smith_format.specs.declared.types.ExportKind.TheVariants as kind
use Rattle.smith_format.specs.declared.types.FuncType.{FuncType}
use Rattle.smith_syntax.specs.CoreLimits.{CoreLimits}
use Rattle.smith_syntax.specs.Entries.{CoreEntry, ModuleDecl}
use Rattle.smith_types.specs.MadeCore.{MadeCore, ReadsDecl, ReadsDeclOf, ReadsEntity, ReadsImportNames, ReadsExportName, EndsModuleType, with_fuel}
use Rattle.smith_tree.specs.CoreTypeOffers.{alias_choices, entity_kinds, with_decl, Declared as SoFar}
use Rattle.smith_syntax.specs.ModuleTypes.{adds, aliased, module_export_names, is_tag_type, names_from}
use Rattle.smith_syntax.specs.Scope.{Scope}
use Rattle.smith_syntax.specs.Places.{places}
use Rattle.smith_syntax.specs.Shown.{shown_core, shown_decl}
use Rattle.smith_syntax.specs.WellFormed.{FormedCore, core_size}
use Rattle.smith_syntax.specs.declared.core_types.CoreType.{CoreType}
use Rattle.smith_syntax.specs.declared.core_types.CoreType.TheVariants as core
use Rattle.smith_syntax.specs.declared.core_types.ModuleTypeDef.{ModuleTypeDef}
use Rattle.smith_syntax.specs.declared.core_types.ModuleTypeDef.TheVariants as decl
use Rattle.smith_types.specs.declared.core_types.declared.Declared.{Declared}
use Rattle.smith_tree.specs.declared.choices.ModuleItem.{ModuleItem}
use Rattle.smith_tree.specs.declared.choices.ModuleItem.TheVariants as item

-- shared function types as plain trees
abbrev pub shown_funcs : List (Rc FuncType Global) → List Function
shown_funcs ts = map (λ t. shown_func t.value) ts

-- a module type so far as plain trees, with this much fuel
abbrev pub so_far : Declared → ℕ → SoFar
so_far d fuel = record { own = shown_funcs d.own.items; decls = map shown_decl d.counted.defs.items; fuel = fuel }

-- what an entity of a kind needs: a tag a type without results, and a function a type
abbrev pub HasTypeFor : List Function → ExportKind → Type 0
HasTypeFor own kind.Func = 0 < length own
HasTypeFor own kind.Tag = 0 < length (places is_tag_type 0 own)
HasTypeFor own k = Unit {0}

-- what a declaration needs: an outer alias something to name
abbrev pub HasChoiceFor : Scope → SoFar → ModuleItem → Type 0
HasChoiceFor around s item.Alias = 0 < length (alias_choices around s)
HasChoiceFor around s i = Unit {0}

-- the names that are imported from a module, or the exported names
abbrev pub names_taken : Bool → List ℕ → List ModuleDecl → List (List ℕ)
names_taken true from ds = names_from from ds
names_taken false from ds = module_export_names ds

-- an entity, or none if nothing can be imported or exported, and then nothing is read
abbrev pub MaybeEntity : Config → SoFar → List ℕ → Option EntityType → List ℕ → Type 0
MaybeEntity config s b e rest = MatchOption e ((entity_kinds config s ≡ []) × (rest ≡ b)) (λ t. ReadsEntity config s b t rest)

-- Only names are read, since nothing can be imported or exported.
abbrev pub ReadsNamesAlone : Config → SoFar → ModuleItem → List ℕ → List ℕ → Type 0
ReadsNamesAlone config s item.Import b rest = (from name : List ℕ) × ReadsImportNames config s b from name rest × (entity_kinds config s ≡ [])
ReadsNamesAlone config s item.Export b rest = (name : List ℕ) × ReadsExportName config s b name rest × (entity_kinds config s ≡ [])
ReadsNamesAlone config s i b rest = ⊥

-- a declaration of a sort was added, or names were read alone
abbrev pub AddsDecl : Config → Scope → SoFar → ModuleItem → List ℕ → Bool → List ℕ → SoFar → Type 0
AddsDecl config around s i b true rest t = (d : ModuleDecl) × ReadsDeclOf config around s i b d rest × (t ≡ with_decl around.core_types s d)
AddsDecl config around s i b false rest t = ReadsNamesAlone config s i b rest × (t ≡ with_fuel s (s.fuel - 1))

-- a turn of the loop: it adds a declaration, or the loop ends
abbrev pub DeclTurn : Config → Scope → SoFar → List ℕ → Bool → List ℕ → SoFar → Type 0
DeclTurn config around s b true rest t = (d : ModuleDecl) × ReadsDecl config around s b d rest t
DeclTurn config around s b false rest t = EndsModuleType config around s b rest t

-- An outer alias keeps the function type that it names.
abbrev pub KeepsNamed : List CoreEntry → List Function → ModuleTypeDef → Type 0
KeepsNamed around own (decl.OuterAlias count i ty) = aliased around own count i ≡ Some (shown_func ty.value)
KeepsNamed around own d = Unit {0}

-- Each outer alias of these declarations keeps the function type that it names, if these types are declared so far.
abbrev pub KeepEach : List CoreEntry → List Function → List ModuleTypeDef → Type 0
KeepEach around own [] = Unit {0}
KeepEach around own (d ∷ ds) = KeepsNamed around own d × KeepEach around (own ++ adds around own (shown_decl d)) ds

-- Each outer alias of a core type keeps the function type that it names.
abbrev pub KeepsAliased : List CoreEntry → CoreType → Type 0
KeepsAliased around (core.Func f) = Unit {0}
KeepsAliased around (core.Module m) = KeepEach around [] m.defs.items

-- A core type as the bytes and the fuel say, which keeps what its aliases name: it is well formed, within the limits, and
-- no larger than the fuel that it took.
pub record CoreMadeToFit (config : Config) (around : Scope) (bytes : List ℕ) (fuel : ℕ) (t : CoreType) (rest : List ℕ) (left : ℕ) : Type 0 where
  pub made : MadeCore config around bytes fuel (shown_core t) rest left
  pub kept : KeepsAliased around.core_types t
  pub formed : FormedCore (shown_core t) around.core_types
  pub limits : CoreLimits config (shown_core t)
  pub size : core_size (shown_core t) + left ≤ fuel

-- the own types after declarations
abbrev pub own_after : List CoreEntry → List Function → List ModuleDecl → List Function
own_after around own [] = own
own_after around own (d ∷ ds) = own_after around (own ++ adds around own d) ds

-- A module type so far: each outer alias keeps the function type that it names, and its own types are the ones that its
-- declarations add.
abbrev pub KeepsDeclared : List CoreEntry → Declared → Type 0
KeepsDeclared around d = KeepEach around [] d.counted.defs.items × (own_after around [] (map shown_decl d.counted.defs.items) ≡ shown_funcs d.own.items)

-- what an outer alias is among, if these are the module type's own types
abbrev pub choices_among : Scope → List Function → List (ℕ × ℕ)
choices_among around own = alias_choices around (record { own = own; decls = []; fuel = 0 })
