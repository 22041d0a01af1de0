-- Well-formed types and core types in their scopes (Explainer.md, type and core type definitions, index spaces).
use Rattle.std.specs.Prelude.{◌≡◌, ℕ, ◌+◌, ◌≤◌, Bool, true, false, List, [], ◌∷◌, ◌++◌, map, length, Option, Some, None, slice_get, bytes_eq}
use Rattle.std.specs.List.{AllByRecursion, IsDistinct}
use Rattle.std.specs.Option.{option_to_list}
use Rattle.smith_format.specs.CoreFormed.{FormedMemory, FormedTable}
use Rattle.smith_format.specs.CoreTypes.{Function}
use Rattle.smith_format.specs.declared.types.EntityType.{EntityType}
use Rattle.smith_format.specs.declared.types.EntityType.TheVariants.{Func, Table, Memory, Global, Tag}
use Rattle.smith_input.specs.Kebab.{Kebab}
use Rattle.smith_syntax.specs.Entries.{DefValType, primitive_type, record_type, variant_type, list_type, tuple_type, flags_type, enum_type, option_type}
use Rattle.smith_syntax.specs.Entries.{result_type}
use Rattle.smith_syntax.specs.Entries.{Entry, defined, function, component_type, instance_type, CoreEntry, core_func, core_module, ModuleDecl, imports}
use Rattle.smith_syntax.specs.Entries.{declares, aliases, exports}
use Rattle.smith_syntax.specs.Entries.{DeclOf, DeclsOf, Decl, Decls, core_type_decl, type_decl, type_alias, core_type_alias, import_decl, export_decl, no_decls}
use Rattle.smith_syntax.specs.Entries.{then_decls}
use Rattle.smith_syntax.specs.declared.deftype.ComponentTypeRef.{ComponentTypeRef}
use Rattle.smith_syntax.specs.declared.deftype.ComponentTypeRef.TheVariants as to
use Rattle.smith_syntax.specs.ModuleTypes.{adds, aliased, is_tag_type, HasNewNames, after_front}
use Rattle.smith_syntax.specs.Scope.{Scope, empty_scope, with_type, with_core_type, is_defined, is_func, is_component, is_instance, is_core_module, type_named}
use Rattle.smith_syntax.specs.Scope.{core_type_named, after_decl}
use Rattle.smith_syntax.specs.declared.types.ComponentValType.{ComponentValType}
use Rattle.smith_syntax.specs.declared.types.ComponentValType.TheVariants.{Primitive, Indexed}

-- An indexed value type names a defined type of its scope.
abbrev pub FormedVal : Scope → ComponentValType → Type 0
FormedVal own (Primitive p) = Unit {0}
FormedVal own (Indexed i) = (e : Entry) × (slice_get own.types i ≡ Some e) × (is_defined e ≡ true)

abbrev pub FormedMaybe : Scope → Option ComponentValType → Type 0
FormedMaybe own None = Unit {0}
FormedMaybe own (Some v) = FormedVal own v

-- Names within one type are in kebab case, and no two of them are the same.
abbrev pub Named : List (List ℕ) → Type 0
Named names = AllByRecursion Kebab names × IsDistinct bytes_eq names

-- A type of values in its own scope. There are from 1 to 100 fields, cases, members and labels, and from 1 to 32 flags.
abbrev pub FormedDefined : DefValType → Scope → Type 0
FormedDefined (primitive_type p) own = Unit {0}
FormedDefined (record_type fs) own = Named (map (λ f. f.0) fs) × AllByRecursion (λ f. FormedVal own f.1) fs × (1 ≤ length fs) × (length fs ≤ 100)
FormedDefined (variant_type cs) own = Named (map (λ c. c.0) cs) × AllByRecursion (λ c. FormedMaybe own c.1) cs × (1 ≤ length cs) × (length cs ≤ 100)
FormedDefined (list_type v) own = FormedVal own v
FormedDefined (tuple_type vs) own = AllByRecursion (FormedVal own) vs × (1 ≤ length vs) × (length vs ≤ 100)
FormedDefined (flags_type ns) own = Named ns × (1 ≤ length ns) × (length ns ≤ 32)
FormedDefined (enum_type ns) own = Named ns × (1 ≤ length ns) × (length ns ≤ 100)
FormedDefined (option_type v) own = FormedVal own v
FormedDefined (result_type ok err) own = FormedMaybe own ok × FormedMaybe own err

-- how many fields, cases, tuple members and labels there are
abbrev pub defined_size : DefValType → ℕ
defined_size (record_type fs) = length fs
defined_size (variant_type cs) = length cs
defined_size (tuple_type vs) = length vs
defined_size (flags_type ns) = length ns
defined_size (enum_type ns) = length ns
defined_size _ = 0

-- What is imported or exported: a function or a tag names one of the module type's own types, which has no results for a tag.
abbrev pub FormedEntity : List Function → EntityType → Type 0
FormedEntity own (Func i) = (f : Function) × (slice_get own i ≡ Some f)
FormedEntity own (Table t) = FormedTable true t
FormedEntity own (Memory m) = FormedMemory m
FormedEntity own (Global g) = Unit {0}
FormedEntity own (Tag t) = (f : Function) × (slice_get own t.func_type_idx ≡ Some f) × (is_tag_type f ≡ true)

-- A declaration after these own types. An outer alias names a function type.
abbrev pub FormedDecl : List CoreEntry → List Function → ModuleDecl → Type 0
FormedDecl around own (imports m n e) = FormedEntity own e
FormedDecl around own (declares f) = Unit {0}
FormedDecl around own (aliases count i) = (f : Function) × (aliased around own count i ≡ Some f)
FormedDecl around own (exports n e) = FormedEntity own e

-- declarations in a row: each is judged after those before it
abbrev pub FormedDecls : List CoreEntry → List Function → List ModuleDecl → Type 0
FormedDecls around own [] = Unit {0}
FormedDecls around own (d ∷ ds) = FormedDecl around own d × FormedDecls around (own ++ adds around own d) ds

-- a core type among the core types around it
abbrev pub FormedCore : CoreEntry → List CoreEntry → Type 0
FormedCore (core_func f) around = Unit {0}
FormedCore (core_module ds) around = FormedDecls around [] ds × HasNewNames ds

-- core types in a row: each is judged after those before it
abbrev pub FormedCores : List CoreEntry → Scope → Type 0
FormedCores [] own = Unit {0}
FormedCores (e ∷ es) own = FormedCore e own.core_types × FormedCores es (with_core_type own e)

-- How many declarations there are, without what the canonical ABI asks. Parameters and results are not counted.
abbrev pub core_size : CoreEntry → ℕ
core_size (core_func f) = 0
core_size (core_module ds) = length (after_front ds)

-- An import or an export names an entry of the scope of its kind.
abbrev pub FormedRef : Scope → ComponentTypeRef → Type 0
FormedRef own (to.Module i) = (e : CoreEntry) × (slice_get own.core_types i ≡ Some e) × (is_core_module e ≡ true)
FormedRef own (to.Func i) = (e : Entry) × (slice_get own.types i ≡ Some e) × (is_func e ≡ true)
FormedRef own (to.TypeEq i) = (e : Entry) × (slice_get own.types i ≡ Some e)
FormedRef own (to.Component i) = (e : Entry) × (slice_get own.types i ≡ Some e) × (is_component e ≡ true)
FormedRef own (to.Instance i) = (e : Entry) × (slice_get own.types i ≡ Some e) × (is_instance e ≡ true)

-- Is it a type that is equal to another?
abbrev pub is_type_eq : ComponentTypeRef → Bool
is_type_eq (to.TypeEq i) = true
is_type_eq _ = false

module _ {N K : Type 0} where
  -- the name that a declaration imports, and what is beside it
  abbrev pub import_of : DeclOf N K → List (List ℕ × N)
  import_of (import_decl name n r) = (name, n) ∷ []
  import_of _ = []

  -- the name that a declaration exports, and what is beside it
  abbrev pub export_of : DeclOf N K → List (List ℕ × N)
  export_of (export_decl name n r) = (name, n) ∷ []
  export_of _ = []

  -- all that declarations import, and all that they export
  abbrev pub decl_imports : DeclsOf N K → List (List ℕ × N)
  decl_imports no_decls = []
  decl_imports (then_decls d ds) = import_of d ++ decl_imports ds

  abbrev pub decl_exports : DeclsOf N K → List (List ℕ × N)
  decl_exports no_decls = []
  decl_exports (then_decls d ds) = export_of d ++ decl_exports ds

-- the names alone
abbrev pub names : {N : Type 0} → List (List ℕ × N) → List (List ℕ)
names xs = map (λ x. x.0) xs

-- A type in its own scope and the scopes around it, innermost first. A function has at most 16 parameters. The declarations of a
-- component type and of an instance type are in a scope of their own, each after those before it. An outer alias names what is in
-- its scope then, an import is not of a type that is equal to another, and an instance type imports nothing.
abbrev mutual
  pub FormedEntry : Entry → Scope → List Scope → Type 0
  FormedEntry (defined t) own outer = FormedDefined t own
  FormedEntry (function s) own outer =
      Named (map (λ p. p.0) s.params) × AllByRecursion (λ p. FormedVal own p.1) s.params × (length s.params ≤ 16) × FormedMaybe own s.result
  FormedEntry (component_type ds) own outer = FormedDeclarations ds empty_scope (own ∷ outer)
      × Named (names (decl_imports ds)) × Named (names (decl_exports ds))
  FormedEntry (instance_type ds) own outer = FormedDeclarations ds empty_scope (own ∷ outer) × (decl_imports ds ≡ []) × Named (names (decl_exports ds))

  pub FormedDeclaration : Decl → Scope → List Scope → Type 0
  FormedDeclaration (core_type_decl t k) own outer = FormedCore t own.core_types
  FormedDeclaration (type_decl e) own outer = FormedEntry e own outer
  FormedDeclaration (type_alias count i k) own outer = (e : Entry) × (type_named (own ∷ outer) count i ≡ Some e)
  FormedDeclaration (core_type_alias count i k) own outer = (e : CoreEntry) × (core_type_named (own ∷ outer) count i ≡ Some e)
  FormedDeclaration (import_decl name n r) own outer = FormedRef own r × (is_type_eq r ≡ false)
  FormedDeclaration (export_decl name n r) own outer = FormedRef own r

  pub FormedDeclarations : Decls → Scope → List Scope → Type 0
  FormedDeclarations no_decls own outer = Unit {0}
  FormedDeclarations (then_decls d ds) own outer = FormedDeclaration d own outer × FormedDeclarations ds (after_decl outer own d) outer

-- Types in a row: each is judged after those before it.
abbrev pub FormedTypes : List Entry → Scope → List Scope → Type 0
FormedTypes [] own outer = Unit {0}
FormedTypes (e ∷ es) own outer = FormedEntry e own outer × FormedTypes es (with_type own e) outer

-- How many members and declarations there are, at all depths: fields, cases, tuple members, labels, parameters and results.
abbrev mutual
  pub size : Entry → ℕ
  size (defined t) = defined_size t
  size (function s) = length s.params + length (option_to_list s.result)
  size (component_type ds) = decls_size ds
  size (instance_type ds) = decls_size ds

  pub decl_size : Decl → ℕ
  decl_size (core_type_decl t k) = core_size t
  decl_size (type_decl e) = size e
  decl_size _ = 0

  pub decls_size : Decls → ℕ
  decls_size no_decls = 0
  decls_size (then_decls d ds) = decl_size d + decls_size ds + 1
