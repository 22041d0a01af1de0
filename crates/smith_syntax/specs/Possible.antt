-- What the standard asks of types and core types, with no bound and no choice of Lupinanon's own (Explainer.md, type and core type
-- definitions, index spaces; core specification, memory and table types). What is well formed is possible; what is not possible is
-- invalid for every validator.
use Rattle.std.specs.Prelude.{◌≡◌, ◌⊎◌, ℕ, zero, suc, ◌<◌, ◌≤◌, Bool, true, false, List, [], ◌∷◌, ◌++◌, map, length, Option, IfSome, Some, slice_get}
use Rattle.std.specs.Prelude.{bytes_eq, codes, nat_eq}
use Rattle.std.specs.List.{AllByRecursion, IsDistinct, list_any}
use Rattle.std.specs.Option.{is_some, option_to_list}
use Rattle.smith_format.specs.CoreTypes.{Function}
use Rattle.smith_format.specs.declared.types.EntityType.{EntityType}
use Rattle.smith_format.specs.declared.types.EntityType.TheVariants.{Func, Global, Memory, Table, Tag}
use Rattle.smith_format.specs.declared.types.MemoryType.{MemoryType}
use Rattle.smith_format.specs.declared.types.TableType.{TableType}
use Rattle.smith_syntax.specs.Entries.{CoreEntry, Decl, DeclOf, Decls, DefValType, Entry, ModuleDecl, aliases, component_type, core_func, core_module}
use Rattle.smith_syntax.specs.Entries.{core_type_alias}
use Rattle.smith_syntax.specs.Entries.{core_type_decl, declares, defined, enum_type, export_decl, exports, flags_type, function, import_decl, imports}
use Rattle.smith_syntax.specs.Entries.{instance_type}
use Rattle.smith_syntax.specs.Entries.{list_type, no_decls, option_type, primitive_type, record_type, result_type, then_decls, tuple_type, type_alias}
use Rattle.smith_syntax.specs.Entries.{type_decl}
use Rattle.smith_syntax.specs.Entries.{variant_type}
use Rattle.smith_syntax.specs.Labels.{IsLabel}
use Rattle.smith_syntax.specs.ModuleTypes.{HasNewNames, adds, func_in}
use Rattle.smith_syntax.specs.Scope.{Scope, after_decl, core_type_named, empty_scope, exported_type, type_named, with_core_type, with_type, with_types}
use Rattle.smith_syntax.specs.WellFormed.{FormedMaybe, FormedRef, FormedVal, decl_exports, decl_imports, names}

-- one of `:`, `[`, `=` and `/`, which names of other things than labels have (Explainer.md, externname)
abbrev pub is_mark : ℕ → Bool
is_mark c = list_any (nat_eq c) (codes ":[=/")

-- a name of a member or a parameter; or one of an import or an export, which may be of another sort than a label
abbrev pub PossibleName : Bool → List ℕ → Type 0
PossibleName extern name = IsLabel name ⊎ ((extern ≡ true) × (list_any is_mark name ≡ true))

-- Names of which no two are the same.
abbrev pub PossibleNames : Bool → List (List ℕ) → Type 0
PossibleNames extern ns = AllByRecursion (PossibleName extern) ns × IsDistinct bytes_eq ns

-- A type of values in its own scope. Of members there is one at least, and of flags there are at most 32.
abbrev pub PossibleDefined : DefValType → Scope → Type 0
PossibleDefined (primitive_type p) own = Unit {0}
PossibleDefined (record_type fs) own = PossibleNames false (map (λ f. f.0) fs) × AllByRecursion (λ f. FormedVal own f.1) fs × (1 ≤ length fs)
PossibleDefined (variant_type cs) own = PossibleNames false (map (λ c. c.0) cs) × AllByRecursion (λ c. FormedMaybe own c.1) cs × (1 ≤ length cs)
PossibleDefined (list_type v) own = FormedVal own v
PossibleDefined (tuple_type vs) own = AllByRecursion (FormedVal own) vs × (1 ≤ length vs)
PossibleDefined (flags_type ns) own = PossibleNames false ns × (1 ≤ length ns) × (length ns ≤ 32)
PossibleDefined (enum_type ns) own = PossibleNames false ns × (1 ≤ length ns)
PossibleDefined (option_type v) own = FormedVal own v
PossibleDefined (result_type ok err) own = FormedMaybe own ok × FormedMaybe own err

-- a maximum, if there is one, that is no less than the minimum, and for addresses of 32 bits both at most this
abbrev pub PossibleLimits : ℕ → Bool → ℕ → Option ℕ → Type 0
PossibleLimits top wide minimum maximum =
    IfSome maximum (λ n. minimum ≤ n) × (wide ≡ false → (minimum ≤ top) × IfSome maximum (λ n. n ≤ top))

-- A shared memory has a maximum.
abbrev pub PossibleMemory : MemoryType → Type 0
PossibleMemory m = PossibleLimits 65536 m.memory64 m.minimum m.maximum × (m.shared ≡ true → is_some m.maximum ≡ true)

abbrev pub PossibleTable : TableType → Type 0
PossibleTable t = PossibleLimits 4294967295 t.table64 t.minimum t.maximum

-- what is imported or exported: a function or a tag names one of the module type's own types
abbrev pub PossibleEntity : List Function → EntityType → Type 0
PossibleEntity own (Func i) = (f : Function) × (slice_get own i ≡ Some f)
PossibleEntity own (Table t) = PossibleTable t
PossibleEntity own (Memory m) = PossibleMemory m
PossibleEntity own (Global g) = Unit {0}
PossibleEntity own (Tag t) = (f : Function) × (slice_get own t.func_type_idx ≡ Some f)

-- A declaration after these own types, with so many scopes beyond the one around the module type. Of an outer alias of one of these it is asked only that
-- the scope is there.
abbrev pub PossibleDecl : List CoreEntry → ℕ → List Function → ModuleDecl → Type 0
PossibleDecl around far own (imports m n e) = PossibleEntity own e
PossibleDecl around far own (declares f) = Unit {0}
PossibleDecl around far own (aliases zero i) = (f : Function) × (slice_get own i ≡ Some f)
PossibleDecl around far own (aliases (suc zero) i) = (f : Function) × (func_in (slice_get around i) ≡ Some f)
PossibleDecl around far own (aliases (suc (suc n)) i) = n < far
PossibleDecl around far own (exports n e) = PossibleEntity own e

-- Is it an outer alias of such a scope?
abbrev pub is_beyond : ModuleDecl → Bool
is_beyond (aliases (suc (suc n)) i) = true
is_beyond _ = false

-- Declarations in a row: each is judged after those before it, and none after an outer alias of such a scope.
abbrev pub PossibleModule : List CoreEntry → ℕ → List Function → List ModuleDecl → Type 0
PossibleModule around far own [] = Unit {0}
PossibleModule around far own (d ∷ ds) =
    PossibleDecl around far own d × (is_beyond d ≡ false → PossibleModule around far (own ++ adds around own d) ds)

-- a core type among the core types around it, with so many scopes beyond them
abbrev pub PossibleCore : CoreEntry → List CoreEntry → ℕ → Type 0
PossibleCore (core_func f) around far = Unit {0}
PossibleCore (core_module ds) around far = PossibleModule around far [] ds × HasNewNames ds

-- core types in a row: each is judged after those before it
abbrev pub PossibleCores : List CoreEntry → Scope → ℕ → Type 0
PossibleCores [] own far = Unit {0}
PossibleCores (e ∷ es) own far = PossibleCore e own.core_types far × PossibleCores es (with_core_type own e) far

-- The scope after a declaration in it: an import of a type adds that type too.
abbrev pub after_possible : {N K : Type 0} → List Scope → Scope → DeclOf N K → Scope
after_possible outer own (import_decl name n r) = with_types own (option_to_list (exported_type own r))
after_possible outer own d = after_decl outer own d

-- A type in its own scope and the scopes around it, innermost first.
abbrev mutual
  pub PossibleEntry : Entry → Scope → List Scope → Type 0
  PossibleEntry (defined t) own outer = PossibleDefined t own
  PossibleEntry (function s) own outer =
      PossibleNames false (map (λ p. p.0) s.params) × AllByRecursion (λ p. FormedVal own p.1) s.params × FormedMaybe own s.result
  PossibleEntry (component_type ds) own outer = PossibleDeclarations ds empty_scope (own ∷ outer)
      × PossibleNames true (names (decl_imports ds)) × PossibleNames true (names (decl_exports ds))
  PossibleEntry (instance_type ds) own outer = PossibleDeclarations ds empty_scope (own ∷ outer)
      × (decl_imports ds ≡ []) × PossibleNames true (names (decl_exports ds))

  pub PossibleDeclaration : Decl → Scope → List Scope → Type 0
  PossibleDeclaration (core_type_decl t k) own outer = PossibleCore t own.core_types (length outer)
  PossibleDeclaration (type_decl e) own outer = PossibleEntry e own outer
  PossibleDeclaration (type_alias count i k) own outer = (e : Entry) × (type_named (own ∷ outer) count i ≡ Some e)
  PossibleDeclaration (core_type_alias count i k) own outer = (e : CoreEntry) × (core_type_named (own ∷ outer) count i ≡ Some e)
  PossibleDeclaration (import_decl name n r) own outer = FormedRef own r
  PossibleDeclaration (export_decl name n r) own outer = FormedRef own r

  pub PossibleDeclarations : Decls → Scope → List Scope → Type 0
  PossibleDeclarations no_decls own outer = Unit {0}
  PossibleDeclarations (then_decls d ds) own outer =
      PossibleDeclaration d own outer × PossibleDeclarations ds (after_possible outer own d) outer

-- Types in a row: each is judged after those before it.
abbrev pub PossibleTypes : List Entry → Scope → List Scope → Type 0
PossibleTypes [] own outer = Unit {0}
PossibleTypes (e ∷ es) own outer = PossibleEntry e own outer × PossibleTypes es (with_type own e) outer
