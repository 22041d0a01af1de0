-- Which types have no encoding, because a count, the length of a name or an index in them exceeds 4,294,967,295.
use Rattle.std.specs.Prelude.{ℕ, ◌⊎◌, Bool, true, false, List, Option, Some, None}
use Rattle.smith_format.specs.TooLong.{IsTooLarge, NameTooLong, ListTooLong, FunctionTooLong, EntityTooLong}
use Rattle.smith_syntax.specs.Entries.{DefValType, primitive_type, record_type, variant_type, list_type, tuple_type, flags_type, enum_type, option_type}
use Rattle.smith_syntax.specs.Entries.{result_type}
use Rattle.smith_syntax.specs.Entries.{Field, Case, Entry, defined, function, component_type, instance_type, CoreEntry, core_func, core_module, ModuleDecl}
use Rattle.smith_syntax.specs.Entries.{imports, declares, aliases, exports}
use Rattle.smith_syntax.specs.Entries.{ImportEntry, Decl, Decls, core_type_decl, type_decl, type_alias, core_type_alias, import_decl, export_decl, no_decls}
use Rattle.smith_syntax.specs.Entries.{then_decls, decl_count}
use Rattle.smith_syntax.specs.declared.deftype.ComponentTypeRef.{ComponentTypeRef}
use Rattle.smith_syntax.specs.declared.deftype.ComponentTypeRef.TheVariants as to
use Rattle.smith_syntax.specs.declared.types.ComponentValType.{ComponentValType}
use Rattle.smith_syntax.specs.declared.types.ComponentValType.TheVariants.{Primitive, Indexed}

abbrev pub ComponentValTooLong : ComponentValType → Type 0
ComponentValTooLong (Primitive p) = ⊥
ComponentValTooLong (Indexed i) = IsTooLarge i

abbrev pub MaybeTooLong : Option ComponentValType → Type 0
MaybeTooLong None = ⊥
MaybeTooLong (Some v) = ComponentValTooLong v

abbrev pub FieldTooLong : Field → Type 0
FieldTooLong f = NameTooLong f.0 ⊎ ComponentValTooLong f.1

abbrev pub CaseTooLong : Case → Type 0
CaseTooLong c = NameTooLong c.0 ⊎ MaybeTooLong c.1

abbrev pub DefinedTooLong : DefValType → Type 0
DefinedTooLong (primitive_type p) = ⊥
DefinedTooLong (record_type fs) = ListTooLong FieldTooLong fs
DefinedTooLong (variant_type cs) = ListTooLong CaseTooLong cs
DefinedTooLong (list_type v) = ComponentValTooLong v
DefinedTooLong (tuple_type vs) = ListTooLong ComponentValTooLong vs
DefinedTooLong (flags_type ns) = ListTooLong NameTooLong ns
DefinedTooLong (enum_type ns) = ListTooLong NameTooLong ns
DefinedTooLong (option_type v) = ComponentValTooLong v
DefinedTooLong (result_type ok err) = MaybeTooLong ok ⊎ MaybeTooLong err

abbrev pub DeclTooLong : ModuleDecl → Type 0
DeclTooLong (imports m n e) = NameTooLong m ⊎ (NameTooLong n ⊎ EntityTooLong e)
DeclTooLong (declares f) = FunctionTooLong f
DeclTooLong (aliases count i) = IsTooLarge count ⊎ IsTooLarge i
DeclTooLong (exports n e) = NameTooLong n ⊎ EntityTooLong e

abbrev pub CoreEntryTooLong : CoreEntry → Type 0
CoreEntryTooLong (core_func f) = FunctionTooLong f
CoreEntryTooLong (core_module ds) = ListTooLong DeclTooLong ds

-- the index of what an import or an export is of
abbrev pub TypeRefTooLong : ComponentTypeRef → Type 0
TypeRefTooLong (to.Module i) = IsTooLarge i
TypeRefTooLong (to.Func i) = IsTooLarge i
TypeRefTooLong (to.TypeEq i) = IsTooLarge i
TypeRefTooLong (to.Component i) = IsTooLarge i
TypeRefTooLong (to.Instance i) = IsTooLarge i

abbrev pub ExternTooLong : List ℕ → ComponentTypeRef → Type 0
ExternTooLong name r = NameTooLong name ⊎ TypeRefTooLong r

-- an import of a component
abbrev pub ImportEntryTooLong : ImportEntry → Type 0
ImportEntryTooLong i = ExternTooLong i.name i.to

-- an import of a component type (true), or of an instance type (false), which no type of the program has
abbrev pub ImportDeclTooLong : Bool → List ℕ → ComponentTypeRef → Type 0
ImportDeclTooLong true name r = ExternTooLong name r
ImportDeclTooLong false name r = Unit {0}

-- types, and the declarations of component types (true) and of instance types (false)
abbrev mutual
  pub EntryTooLong : Entry → Type 0
  EntryTooLong (defined t) = DefinedTooLong t
  EntryTooLong (function s) = ListTooLong FieldTooLong s.params ⊎ MaybeTooLong s.result
  EntryTooLong (component_type ds) = IsTooLarge (decl_count ds) ⊎ DeclarationsTooLong true ds
  EntryTooLong (instance_type ds) = IsTooLarge (decl_count ds) ⊎ DeclarationsTooLong false ds

  pub DeclarationTooLong : Bool → Decl → Type 0
  DeclarationTooLong importing (core_type_decl t k) = CoreEntryTooLong t
  DeclarationTooLong importing (type_decl e) = EntryTooLong e
  DeclarationTooLong importing (type_alias count i k) = IsTooLarge count ⊎ IsTooLarge i
  DeclarationTooLong importing (core_type_alias count i k) = IsTooLarge count ⊎ IsTooLarge i
  DeclarationTooLong importing (import_decl name n r) = ImportDeclTooLong importing name r
  DeclarationTooLong importing (export_decl name n r) = ExternTooLong name r

  pub DeclarationsTooLong : Bool → Decls → Type 0
  DeclarationsTooLong importing no_decls = ⊥
  DeclarationsTooLong importing (then_decls d ds) = DeclarationTooLong importing d ⊎ DeclarationsTooLong importing ds
