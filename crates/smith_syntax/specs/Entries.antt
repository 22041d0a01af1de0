-- Types as plain trees (Explainer.md, type definitions): nothing is shared.
use Rattle.std.specs.Prelude.{ℕ, ◌+◌, List, [], ◌∷◌, Option}
use Rattle.smith_format.specs.CoreTypes.{Function}
use Rattle.smith_format.specs.declared.types.EntityType.{EntityType}
use Rattle.smith_syntax.specs.declared.deftype.ComponentTypeRef.{ComponentTypeRef}
use Rattle.smith_syntax.specs.declared.types.ComponentValType.{ComponentValType}
use Rattle.smith_syntax.specs.declared.types.PrimitiveValType.{PrimitiveValType}

-- a name and a value type: a field of a record, or a parameter of a function
abbrev pub Field : Type 0
Field = List ℕ × ComponentValType

-- a case of a variant: a name, and a value type or none
abbrev pub Case : Type 0
Case = List ℕ × Option ComponentValType

-- a type of values (Explainer.md, defvaltype)
pub data DefValType : Type 0 where
  primitive_type : PrimitiveValType → DefValType
  record_type : List Field → DefValType
  variant_type : List Case → DefValType
  list_type : ComponentValType → DefValType
  tuple_type : List ComponentValType → DefValType
  flags_type : List (List ℕ) → DefValType
  enum_type : List (List ℕ) → DefValType
  option_type : ComponentValType → DefValType
  result_type : Option ComponentValType → Option ComponentValType → DefValType

-- a type of functions: the parameters, and the type of the result
pub record Signature : Type 0 where
  pub params : List Field
  pub result : Option ComponentValType

-- What a module type declares: a function type, an import by two names, an outer alias by count and index, or an export.
pub data ModuleDecl : Type 0 where
  declares : Function → ModuleDecl
  imports : List ℕ → List ℕ → EntityType → ModuleDecl
  aliases : ℕ → ℕ → ModuleDecl
  exports : List ℕ → EntityType → ModuleDecl

-- a core type that a component declares
pub data CoreEntry : Type 0 where
  core_func : Function → CoreEntry
  core_module : List ModuleDecl → CoreEntry

-- Types of components and instances hold types. What the binary format leaves out is a parameter: N is beside each name of an
-- import or export, and K beside what is kept of a type that is elsewhere.
mutual
  -- a type that a component declares (Explainer.md, deftype)
  pub data EntryOf (N K : Type 0) : Type 0 where
    defined : DefValType → EntryOf N K
    function : Signature → EntryOf N K
    component_type : DeclsOf N K → EntryOf N K
    instance_type : DeclsOf N K → EntryOf N K

  -- What a component type or an instance type declares: a core type, a type, an outer alias of one or the other by its count of
  -- scopes and its index, an import, or an export. Instance types import nothing.
  pub data DeclOf (N K : Type 0) : Type 0 where
    core_type_decl : CoreEntry → K → DeclOf N K
    type_decl : EntryOf N K → DeclOf N K
    type_alias : ℕ → ℕ → K → DeclOf N K
    core_type_alias : ℕ → ℕ → K → DeclOf N K
    import_decl : List ℕ → N → ComponentTypeRef → DeclOf N K
    export_decl : List ℕ → N → ComponentTypeRef → DeclOf N K

  -- declarations in order
  pub data DeclsOf (N K : Type 0) : Type 0 where
    no_decls : DeclsOf N K
    then_decls : DeclOf N K → DeclsOf N K → DeclsOf N K

-- plain trees have nothing there
abbrev pub Entry : Type 0
Entry = EntryOf (Unit {0}) (Unit {0})

abbrev pub Decl : Type 0
Decl = DeclOf (Unit {0}) (Unit {0})

abbrev pub Decls : Type 0
Decls = DeclsOf (Unit {0}) (Unit {0})

-- What is kept: the type or core type that an outer alias names, or the function types that the outer aliases of a core type name.
pub data Kept : Type 0 where
  keeps_type : Entry → Kept
  keeps_core_type : CoreEntry → Kept
  keeps_functions : List Function → Kept

-- Types as they are made: a URL or none beside each name, and what is kept.
abbrev pub FullEntry : Type 0
FullEntry = EntryOf (Option (List ℕ)) Kept

abbrev pub FullDecl : Type 0
FullDecl = DeclOf (Option (List ℕ)) Kept

abbrev pub FullDecls : Type 0
FullDecls = DeclsOf (Option (List ℕ)) Kept

module _ {N K : Type 0} where
  -- without what the binary format leaves out
  abbrev mutual
    pub plain : EntryOf N K → Entry
    plain (defined t) = defined t
    plain (function s) = function s
    plain (component_type ds) = component_type (plain_decls ds)
    plain (instance_type ds) = instance_type (plain_decls ds)

    pub plain_decl : DeclOf N K → Decl
    plain_decl (core_type_decl t k) = core_type_decl t tt
    plain_decl (type_decl e) = type_decl (plain e)
    plain_decl (type_alias count i k) = type_alias count i tt
    plain_decl (core_type_alias count i k) = core_type_alias count i tt
    plain_decl (import_decl name n r) = import_decl name tt r
    plain_decl (export_decl name n r) = export_decl name tt r

    pub plain_decls : DeclsOf N K → Decls
    plain_decls no_decls = no_decls
    plain_decls (then_decls d ds) = then_decls (plain_decl d) (plain_decls ds)

  abbrev pub in_order : List (DeclOf N K) → DeclsOf N K
  in_order [] = no_decls
  in_order (d ∷ ds) = then_decls d (in_order ds)

  abbrev pub decl_count : DeclsOf N K → ℕ
  decl_count no_decls = 0
  decl_count (then_decls d ds) = decl_count ds + 1

-- what a component imports: a name, and what it is of
pub record ImportEntry : Type 0 where
  pub name : List ℕ
  pub to : ComponentTypeRef
