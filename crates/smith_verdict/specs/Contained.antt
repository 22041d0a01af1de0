-- What is asked of all that a component contains, at every depth: in its sections, in the components in it, and in what its types declare.
use Rattle.std.specs.Prelude.{◌≤◌, ℕ, List, length}
use Rattle.std.specs.List.{AllByRecursion}
use Rattle.smith_format.specs.CoreTypes.{Function}
use Rattle.smith_format.specs.declared.types.EntityType.{EntityType}
use Rattle.smith_format.specs.declared.types.EntityType.TheVariants.{Global, Table}
use Rattle.smith_format.specs.declared.types.RefType.{RefType}
use Rattle.smith_format.specs.declared.types.RefType.TheVariants.{Concrete}
use Rattle.smith_format.specs.declared.types.ValType.{ValType}
use Rattle.smith_format.specs.declared.types.ValType.TheVariants.{Ref}
use Rattle.smith_syntax.specs.Entries.{CoreEntry, Decl, Decls, DefValType, Entry, ModuleDecl, aliases, component_type, core_func}
use Rattle.smith_syntax.specs.Entries.{core_module as core_module_type, core_type_alias, core_type_decl, declares, defined, enum_type, export_decl}
use Rattle.smith_syntax.specs.Entries.{exports as module_exports, flags_type, function, import_decl, imports as module_imports, instance_type, no_decls}
use Rattle.smith_syntax.specs.Entries.{record_type, then_decls, type_alias, type_decl, variant_type}
use Rattle.smith_syntax.specs.WellFormed.{names}
use Rattle.smith_tree.specs.Tree.{Part, Tree, canons, component, core_module, core_types, custom, ends, exports, first, imports, types}

-- A name, a core function type, the type of what a module type imports or exports, or all that a module type declares.
pub data Content : Type 0 where
  text : List ℕ → Content
  core_function : Function → Content
  entity : EntityType → Content
  module_type : List ModuleDecl → Content

-- It holds of all that is in these.
module _ (P : Content → Type 0) where
  abbrev pub OfNames : List (List ℕ) → Type 0
  OfNames ns = AllByRecursion (λ n. P (text n)) ns

  abbrev pub OfModuleDecl : ModuleDecl → Type 0
  OfModuleDecl (declares f) = P (core_function f)
  OfModuleDecl (module_imports m n e) = P (text m) × P (text n) × P (entity e)
  OfModuleDecl (aliases count i) = Unit {0}
  OfModuleDecl (module_exports n e) = P (text n) × P (entity e)

  abbrev pub OfCore : CoreEntry → Type 0
  OfCore (core_func f) = P (core_function f)
  OfCore (core_module_type ds) = P (module_type ds) × AllByRecursion OfModuleDecl ds

  abbrev pub OfDefined : DefValType → Type 0
  OfDefined (record_type fs) = OfNames (names fs)
  OfDefined (variant_type cs) = OfNames (names cs)
  OfDefined (flags_type ns) = OfNames ns
  OfDefined (enum_type ns) = OfNames ns
  OfDefined _ = Unit {0}

  abbrev mutual
    pub OfEntry : Entry → Type 0
    OfEntry (defined t) = OfDefined t
    OfEntry (function s) = OfNames (names s.params)
    OfEntry (component_type ds) = OfDecls ds
    OfEntry (instance_type ds) = OfDecls ds

    pub OfDecl : Decl → Type 0
    OfDecl (core_type_decl t k) = OfCore t
    OfDecl (type_decl e) = OfEntry e
    OfDecl (type_alias count i k) = Unit {0}
    OfDecl (core_type_alias count i k) = Unit {0}
    OfDecl (import_decl n u r) = P (text n)
    OfDecl (export_decl n u r) = P (text n)

    pub OfDecls : Decls → Type 0
    OfDecls no_decls = Unit {0}
    OfDecls (then_decls d ds) = OfDecl d × OfDecls ds

  abbrev mutual
    pub OfTree : Tree → Type 0
    OfTree ends = Unit {0}
    OfTree (first p t) = OfPart p × OfTree t

    pub OfPart : Part → Type 0
    OfPart (custom name contents) = P (text name)
    OfPart (core_module bytes) = Unit {0}
    OfPart (core_types ts) = AllByRecursion OfCore ts
    OfPart (component t) = OfTree t
    OfPart (types ts) = AllByRecursion OfEntry ts
    OfPart (canons fs) = Unit {0}
    OfPart (imports is) = AllByRecursion (λ i. P (text i.name)) is
    OfPart (exports es) = AllByRecursion (λ e. P (text e.name)) es

-- no concrete reference, which is to a type by its index (core specification, reference types)

abbrev pub IsPlainRef : RefType → Type 0
IsPlainRef (Concrete nullable index) = ⊥
IsPlainRef _ = Unit {0}

abbrev pub IsPlain : ValType → Type 0
IsPlain (Ref r) = IsPlainRef r
IsPlain _ = Unit {0}

abbrev pub IsPlainEntity : EntityType → Type 0
IsPlainEntity (Table t) = IsPlainRef t.element_type
IsPlainEntity (Global g) = IsPlain g.val_type
IsPlainEntity _ = Unit {0}

abbrev pub IsPlainContent : Content → Type 0
IsPlainContent (text n) = Unit {0}
IsPlainContent (core_function f) = AllByRecursion IsPlain f.0 × AllByRecursion IsPlain f.1
IsPlainContent (entity e) = IsPlainEntity e
IsPlainContent (module_type ds) = Unit {0}

-- no core value type in it is a concrete reference
abbrev pub HasNoReferences : Tree → Type 0
HasNoReferences t = OfTree IsPlainContent t

-- Bounds of wasmparser: of the bytes of a name, of the parameters and the results of a core function type, and of the declarations of a module type.
abbrev pub IsWithinBounds : Content → Type 0
IsWithinBounds (text n) = length n ≤ 100000
IsWithinBounds (core_function f) = (length f.0 ≤ 1000) × (length f.1 ≤ 1000)
IsWithinBounds (entity e) = Unit {0}
IsWithinBounds (module_type ds) = length ds ≤ 100000

-- it keeps these bounds of wasmparser, beside those of `Validates`
abbrev pub KeepsMore : Tree → Type 0
KeepsMore t = OfTree IsWithinBounds t
