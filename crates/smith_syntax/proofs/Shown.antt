-- The trees of types, variant by variant.
use Rattle.std.proofs.Common.{◌≡◌, map, Option, rules}
use Rattle.std.specs.Prelude.{String, string_bytes}
use Rattle.std.specs.declared.rc.Rc.{Rc}
use Rattle.std.specs.declared.alloc.Global.{Global}
use Rattle.smith_syntax.specs.declared.core_types.CoreType.{CoreType}
use Rattle.smith_syntax.specs.declared.deftype.Alias.{Alias}
use Rattle.smith_syntax.specs.declared.deftype.ComponentType.{ComponentType}
use Rattle.smith_syntax.specs.declared.deftype.ComponentTypeDef.TheFolds.{the_lemmas}
use Rattle.smith_syntax.specs.declared.deftype.ComponentTypeDef.TheVariants as in_component
use Rattle.smith_syntax.specs.declared.deftype.ComponentTypeRef.{ComponentTypeRef}
use Rattle.smith_syntax.specs.declared.deftype.DefType.{DefType}
use Rattle.smith_syntax.specs.declared.deftype.DefType.TheVariants as ty
use Rattle.smith_syntax.specs.declared.deftype.Import.{Import}
use Rattle.smith_syntax.specs.declared.deftype.InstanceType.{InstanceType}
use Rattle.smith_syntax.specs.declared.deftype.InstanceTypeDecl.TheVariants as in_instance
use Rattle.smith_syntax.specs.declared.deftype.OuterAliasKind.TheVariants as kind
use Rattle.smith_syntax.specs.declared.func.FuncType.{FuncType}
use Rattle.smith_syntax.specs.declared.types.DefinedType.{DefinedType}
use Rattle.smith_syntax.specs.Entries.{component_type, core_type_alias, core_type_decl, defined, export_decl, function, import_decl, in_order, instance_type}
use Rattle.smith_syntax.specs.Entries.{keeps_core_type, keeps_functions, keeps_type, plain, plain_decls, type_alias, type_decl}
use Rattle.smith_syntax.specs.Shown.{full_type, kept_core, shown_core, shown_defined, shown_type}
use Rattle.smith_syntax.specs.ShownDecls.{full_alias, full_component_decl, full_instance_decl}
use Rattle.smith_syntax.specs.Shown.{shown_url}

-- types with URLs and with what their aliases keep

pub full_defined : (t : DefinedType) → full_type (ty.Defined t) ≡ defined (shown_defined t)
full_defined t = search (rules, the_lemmas)

pub full_func : (f : Rc FuncType Global) → full_type (ty.Func f) ≡ function f.value
full_func f = search (rules, the_lemmas)

pub full_component : (t : ComponentType) → full_type (ty.Component t) ≡ component_type (in_order (map full_component_decl t.defs.items))
full_component t = search (rules, the_lemmas)

pub full_instance : (t : InstanceType) → full_type (ty.Instance t) ≡ instance_type (in_order (map full_instance_decl t.defs.items))
full_instance t = search (rules, the_lemmas)

-- what a component type declares

pub component_import : (i : Import) → full_component_decl (in_component.Import i) ≡ import_decl (string_bytes i.name) (shown_url i.url) i.ty
component_import i = search (rules, the_lemmas)

-- what an instance type declares

pub instance_core_decl : (t : Rc CoreType Global) → full_instance_decl (in_instance.CoreTypeDecl t) ≡ core_type_decl (shown_core t.value)
    (keeps_functions (kept_core t.value))
instance_core_decl t = search (rules, the_lemmas)

pub instance_type_decl : (t : Rc DefType Global) → full_instance_decl (in_instance.TypeDecl t) ≡ type_decl (full_type t.value)
instance_type_decl t = search (rules, the_lemmas)

pub instance_alias : (a : Alias) → full_instance_decl (in_instance.Alias a) ≡ full_alias a
instance_alias a = search (rules, the_lemmas)

pub instance_export : (name : String Global) (url : Option (String Global)) (r : ComponentTypeRef)
    → full_instance_decl (in_instance.Export name url r) ≡ export_decl (string_bytes name) (shown_url url) r
instance_export name url r = search (rules, the_lemmas)

-- outer aliases

pub alias_of_type : (a : Alias) (t : Rc DefType Global) → a.kind ≡ kind.OfType t
    → full_alias a ≡ type_alias a.count a.i (keeps_type (plain (full_type t.value)))
alias_of_type a t e = search (rules, the_lemmas, e)

pub alias_of_core_type : (a : Alias) (t : Rc CoreType Global) → a.kind ≡ kind.OfCoreType t
    → full_alias a ≡ core_type_alias a.count a.i (keeps_core_type (shown_core t.value))
alias_of_core_type a t e = search (rules, the_lemmas, e)

-- plain trees

pub shown_component_is : (t : ComponentType) → shown_type (ty.Component t) ≡ component_type
    (plain_decls (in_order (map full_component_decl t.defs.items)))
shown_component_is t = search (rules, the_lemmas)

pub shown_instance_is : (t : InstanceType) → shown_type (ty.Instance t) ≡ instance_type
    (plain_decls (in_order (map full_instance_decl t.defs.items)))
shown_instance_is t = search (rules, the_lemmas)
