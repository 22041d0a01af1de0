-- The types of the program as plain trees.
use Rattle.std.specs.Prelude.{ℕ, List, [], ◌∷◌, Option, Some, None, map, String, string_bytes}
use Rattle.std.specs.List.{flat_map}
use Rattle.std.specs.Cow.{cow_str_bytes}
use Rattle.std.specs.declared.alloc.Global.{Global}
use Rattle.std.specs.declared.rc.Rc.{Rc}
use Rattle.smith_format.specs.CoreTypes.{Function}
use Rattle.smith_format.specs.Shown.{shown_func}
use Rattle.smith_syntax.specs.Entries.{DefValType, primitive_type, record_type, variant_type, list_type, tuple_type, flags_type, enum_type, option_type}
use Rattle.smith_syntax.specs.Entries.{result_type}
use Rattle.smith_syntax.specs.Entries.{FullEntry, FullDecl, FullDecls, component_type, instance_type, core_type_decl, type_decl, type_alias}
use Rattle.smith_syntax.specs.Entries.{core_type_alias, import_decl, export_decl}
use Rattle.smith_syntax.specs.Entries.{keeps_type, keeps_core_type, keeps_functions, in_order, plain}
use Rattle.smith_syntax.specs.Entries.{Entry, ImportEntry, defined, function, CoreEntry, core_func, core_module, ModuleDecl, declares, imports}
use Rattle.smith_syntax.specs.Entries.{aliases, exports}
use Rattle.smith_syntax.specs.Signature.{named}
use Rattle.smith_syntax.specs.declared.core_types.CoreType.{CoreType}
use Rattle.smith_syntax.specs.declared.core_types.CoreType.TheVariants as core
use Rattle.smith_syntax.specs.declared.core_types.ModuleTypeDef.{ModuleTypeDef}
use Rattle.smith_syntax.specs.declared.core_types.ModuleTypeDef.TheVariants as decl
use Rattle.smith_syntax.specs.declared.types.DefinedType.{DefinedType}
use Rattle.smith_syntax.specs.declared.types.DefinedType.TheVariants as value
use Rattle.smith_syntax.specs.declared.deftype.DefType.{DefType}
use Rattle.smith_syntax.specs.declared.deftype.Import.{Import}
use Rattle.smith_syntax.specs.declared.deftype.ComponentTypeDef.TheOpen as layer
use Rattle.smith_syntax.specs.declared.deftype.ComponentTypeDef.TheOpen.{ComponentTypeDef-F, DefType-F, InstanceTypeDecl-F, OuterAliasKind-F, Alias-F}
use Rattle.smith_syntax.specs.declared.deftype.ComponentTypeDef.TheOpen.{ComponentType-F, InstanceType-F}
use Rattle.smith_syntax.specs.declared.deftype.ComponentTypeDef.TheFolds.{fold-DefType}

abbrev pub shown_defined : DefinedType → DefValType
shown_defined (value.Primitive p) = primitive_type p
shown_defined (value.Record t) = record_type (map named t.fields.items)
shown_defined (value.Variant t) = variant_type (map named t.cases.items)
shown_defined (value.List t) = list_type t.elem_ty
shown_defined (value.Tuple t) = tuple_type t.fields.items
shown_defined (value.Flags t) = flags_type (map string_bytes t.fields.items)
shown_defined (value.Enum t) = enum_type (map string_bytes t.variants.items)
shown_defined (value.Option t) = option_type t.inner_ty
shown_defined (value.Result t) = result_type t.ok_ty t.err_ty

abbrev pub shown_decl : ModuleTypeDef → ModuleDecl
shown_decl (decl.FuncDef f) = declares (shown_func f.value)
shown_decl (decl.Import i) = imports (string_bytes i.module) (string_bytes i.name) i.entity_type
shown_decl (decl.OuterAlias count i ty) = aliases count i
shown_decl (decl.Export name entity) = exports (cow_str_bytes name) entity

abbrev pub shown_core : CoreType → CoreEntry
shown_core (core.Func f) = core_func (shown_func f.value)
shown_core (core.Module m) = core_module (map shown_decl m.defs.items)

-- what a shared core type shows
abbrev pub shown_shared_core : Rc CoreType Global → CoreEntry
shown_shared_core t = shown_core t.value

-- the function types that the outer aliases of a core type keep, in order
abbrev pub aliased_functions : ModuleTypeDef → List Function
aliased_functions (decl.OuterAlias count i ty) = shown_func ty.value ∷ []
aliased_functions _ = []

abbrev pub kept_core : CoreType → List Function
kept_core (core.Func f) = []
kept_core (core.Module m) = flat_map aliased_functions m.defs.items

abbrev pub shown_url : Option (String Global) → Option (List ℕ)
shown_url None = None
shown_url (Some url) = Some (string_bytes url)

-- Types with URLs and with what their aliases keep, layer by layer.

abbrev pub core_step : Rc CoreType Global → FullDecl
core_step t = core_type_decl (shown_core t.value) (keeps_functions (kept_core t.value))

abbrev pub component_decl_step : ComponentTypeDef-F FullDecl FullEntry FullDecl (ℕ → ℕ → FullDecl) FullDecl FullDecls FullDecls → FullDecl
component_decl_step (layer.ComponentTypeDef::CoreTypeDecl t) = core_step t
component_decl_step (layer.ComponentTypeDef::TypeDecl t) = type_decl t.value
component_decl_step (layer.ComponentTypeDef::Alias a) = a
component_decl_step (layer.ComponentTypeDef::Export name url r) = export_decl (string_bytes name) (shown_url url) r
component_decl_step (layer.Import i) = import_decl (string_bytes i.name) (shown_url i.url) i.ty

abbrev pub type_step : DefType-F FullDecl FullEntry FullDecl (ℕ → ℕ → FullDecl) FullDecl FullDecls FullDecls → FullEntry
type_step (layer.Defined t) = defined (shown_defined t)
type_step (layer.Func f) = function f.value
type_step (layer.Component t) = component_type t
type_step (layer.Instance t) = instance_type t

abbrev pub instance_decl_step : InstanceTypeDecl-F FullDecl FullEntry FullDecl (ℕ → ℕ → FullDecl) FullDecl FullDecls FullDecls → FullDecl
instance_decl_step (layer.InstanceTypeDecl::CoreTypeDecl t) = core_step t
instance_decl_step (layer.InstanceTypeDecl::TypeDecl t) = type_decl t.value
instance_decl_step (layer.InstanceTypeDecl::Alias a) = a
instance_decl_step (layer.InstanceTypeDecl::Export name url r) = export_decl (string_bytes name) (shown_url url) r

abbrev pub kind_step : OuterAliasKind-F FullDecl FullEntry FullDecl (ℕ → ℕ → FullDecl) FullDecl FullDecls FullDecls → (ℕ → ℕ → FullDecl)
kind_step (layer.OfType t) = λ count i. type_alias count i (keeps_type (plain t.value))
kind_step (layer.OfCoreType t) = λ count i. core_type_alias count i (keeps_core_type (shown_core t.value))

abbrev pub alias_step : Alias-F FullDecl FullEntry FullDecl (ℕ → ℕ → FullDecl) FullDecl FullDecls FullDecls → FullDecl
alias_step a = a.kind a.count a.i

abbrev pub component_step : ComponentType-F FullDecl FullEntry FullDecl (ℕ → ℕ → FullDecl) FullDecl FullDecls FullDecls → FullDecls
component_step t = in_order t.defs.items

abbrev pub instance_step : InstanceType-F FullDecl FullEntry FullDecl (ℕ → ℕ → FullDecl) FullDecl FullDecls FullDecls → FullDecls
instance_step t = in_order t.defs.items

abbrev pub full_type : DefType → FullEntry
full_type = fold-DefType FullDecl FullEntry FullDecl (ℕ → ℕ → FullDecl) FullDecl FullDecls FullDecls component_decl_step type_step instance_decl_step kind_step
    alias_step component_step instance_step

-- A type as a plain tree: URLs and what is kept are left out.
abbrev pub shown_type : DefType → Entry
shown_type t = plain (full_type t)

-- what a shared type shows
abbrev pub shown_shared : Rc DefType Global → Entry
shown_shared t = shown_type t.value

-- an import of a component: its URL is left out
abbrev pub import_shown : Import → ImportEntry
import_shown i = record { name = string_bytes i.name; to = i.ty }
