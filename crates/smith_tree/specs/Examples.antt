-- Components that name what they import and export, and components that do not.
use Rattle.std.specs.Prelude.{ℕ, List, [], ◌∷◌, None}
use Rattle.smith_syntax.specs.Entries.{Entry, defined, function, component_type, instance_type, enum_type, list_type, record_type, tuple_type}
use Rattle.smith_syntax.specs.Entries.{Decl, type_decl, type_alias, import_decl, export_decl, in_order, ImportEntry}
use Rattle.smith_syntax.specs.declared.deftype.ComponentTypeRef.{ComponentTypeRef}
use Rattle.smith_syntax.specs.declared.deftype.ComponentTypeRef.TheVariants as to
use Rattle.smith_syntax.specs.declared.types.ComponentValType.TheVariants.{Indexed}
use Rattle.smith_tree.specs.Tree.{Tree, ends, first, imports, types}

abbrev pub name_a : List ℕ
name_a = 97 ∷ []

abbrev pub name_b : List ℕ
name_b = 98 ∷ []

-- an enum with one label
abbrev pub enum : Entry
enum = defined (enum_type (name_a ∷ []))

-- a function with one parameter, of the type with that index
abbrev pub function_of : ℕ → Entry
function_of i = function (record { params = (name_a, Indexed i) ∷ []; result = None })

abbrev pub import_a : ComponentTypeRef → Decl
import_a r = import_decl name_a tt r

abbrev pub export_a : ComponentTypeRef → Decl
export_a r = export_decl name_a tt r

abbrev pub export_b : ComponentTypeRef → Decl
export_b r = export_decl name_b tt r

-- an enum, and a type that is equal to it
abbrev pub with_named_enum : List Decl → List Decl
with_named_enum ds = type_decl enum ∷ export_a (to.TypeEq 0) ∷ ds

-- a type of instances that export a function of an enum which they name
abbrev pub naming_instance : Entry
naming_instance = instance_type (in_order (with_named_enum (type_decl (function_of 1) ∷ export_b (to.Func 2) ∷ [])))

-- a component with these types, and one with an import too
abbrev pub with_types : List Entry → Tree
with_types ts = first (types ts) ends

abbrev pub with_import : List Entry → ComponentTypeRef → Tree
with_import ts r = let one : ImportEntry = record { name = name_a; to = r } in first (types ts) (first (imports (one ∷ [])) ends)

-- a component with a component type that declares these
abbrev pub with_declarations : List Decl → Tree
with_declarations ds = with_types (component_type (in_order ds) ∷ [])

-- an import of a function of an enum
abbrev pub imports_function_of_enum : Tree
imports_function_of_enum = with_import (enum ∷ function_of 0 ∷ []) (to.Func 1)

-- the same function without the import
abbrev pub has_function_of_enum : Tree
has_function_of_enum = with_types (enum ∷ function_of 0 ∷ [])

-- an import of a function of a tuple of a list of an enum
abbrev pub imports_function_of_tuple : Tree
imports_function_of_tuple =
    with_import (enum ∷ defined (list_type (Indexed 0)) ∷ defined (tuple_type (Indexed 1 ∷ [])) ∷ function_of 2 ∷ []) (to.Func 3)

-- a component type that names an enum, and exports a function of it
abbrev pub exports_function_of_named_enum : Tree
exports_function_of_named_enum = with_declarations (with_named_enum (type_decl (function_of 1) ∷ export_b (to.Func 2) ∷ []))

-- the same with a function of the enum as it was declared
abbrev pub exports_function_of_unnamed_enum : Tree
exports_function_of_unnamed_enum = with_declarations (with_named_enum (type_decl (function_of 0) ∷ export_b (to.Func 2) ∷ []))

-- a component type that names an enum, and imports a function of it
abbrev pub imports_function_of_named_enum : Tree
imports_function_of_named_enum = with_declarations (with_named_enum (type_decl (function_of 1) ∷ import_a (to.Func 2) ∷ []))

-- a component type that exports a function of an enum which is named outside
abbrev pub exports_function_of_aliased_enum : Tree
exports_function_of_aliased_enum = with_declarations (with_named_enum
    (type_decl (component_type (in_order (type_alias 1 1 tt ∷ type_decl (function_of 0) ∷ export_a (to.Func 1) ∷ []))) ∷ []))

-- an import of an instance that names its own enum
abbrev pub imports_instance : Tree
imports_instance = with_import (naming_instance ∷ []) (to.Instance 0)

-- a component type that exports such an instance
abbrev pub exports_instance : Tree
exports_instance = with_declarations (type_decl naming_instance ∷ export_a (to.Instance 0) ∷ [])

-- a component type that names the type of such an instance
abbrev pub names_instance_type : Tree
names_instance_type = with_declarations (type_decl naming_instance ∷ export_a (to.TypeEq 0) ∷ [])

-- the same after it exports an instance of it
abbrev pub names_type_of_exported_instance : Tree
names_type_of_exported_instance = with_declarations (type_decl naming_instance ∷ export_a (to.Instance 0) ∷ export_b (to.TypeEq 0) ∷ [])

-- a component type that names a record of an enum without a name
abbrev pub names_record_of_enum : Tree
names_record_of_enum =
    with_declarations (type_decl enum ∷ type_decl (defined (record_type ((name_a, Indexed 0) ∷ []))) ∷ export_a (to.TypeEq 1) ∷ [])

-- a component type that names the enum
abbrev pub names_enum : Tree
names_enum = with_declarations (type_decl enum ∷ export_a (to.TypeEq 0) ∷ [])
