-- A type as the program makes it: what it keeps beside the declarations, and what one call adds.
use Rattle.std.specs.Prelude.{◌≡◌, ℕ, ◌+◌, ◌<◌, ◌≤◌, max, IfOk, Result, Bool, true, false, List, [], ◌∷◌, ◌++◌, drop, length, map, reverse}
use Rattle.std.specs.Prelude.{Option, None, Some, string_bytes}
use Rattle.smith_format.specs.Consistency.{IsConsistent}
use Rattle.smith_format.specs.Limits.{configured}
use Rattle.smith_format.specs.declared.config.Config.{Config}
use Rattle.smith_format.specs.declared.types.ValType.{ValType}
use Rattle.smith_input.specs.Names.{Holds}
use Rattle.smith_input.specs.declared.error.Error.{Error}
use Rattle.smith_syntax.specs.Entries.{Entry, keeps_type, keeps_core_type, import_decl, type_alias, core_type_alias, Signature, CoreEntry}
use Rattle.smith_syntax.specs.Entries.{DefValType, FullEntry, FullDecl, FullDecls, defined, function, component_type, instance_type, core_type_decl, type_decl}
use Rattle.smith_syntax.specs.Entries.{in_order, plain, then_decls, keeps_functions}
use Rattle.smith_syntax.specs.Marked.{Marked, empty_marked, mark, marked_after, marked_after_all, scope_in, scopes_in_marked}
use Rattle.smith_syntax.specs.Scope.{core_type_named, type_named}
use Rattle.smith_syntax.specs.declared.marks.Mark.{Mark}
use Rattle.smith_syntax.specs.Shown.{shown_url}
use Rattle.smith_syntax.specs.ShownDecls.{full_component_decl, full_instance_decl}
use Rattle.smith_syntax.specs.Nesting.{nesting}
use Rattle.smith_syntax.specs.TypeLimits.{EntryLimits}
use Rattle.smith_syntax.specs.Usable.{OfferedEntry}
use Rattle.smith_syntax.specs.WellFormed.{FormedEntry, names, import_of, export_of, size}
use Rattle.smith_syntax.specs.declared.deftype.Import.{Import}
use Rattle.smith_types.specs.Declarations.{NamedExtern, SoFar, after_one, nothing_so_far, ReadsImportDecl, NoImportDecl, url_names}
use Rattle.smith_tree.specs.TypeOffers.{has_export, occupied}
use Rattle.smith_types.specs.Made.{Made, MadeDeclaration, MadeDefined, MadeFunction, MadeDeclarations}
use Rattle.smith_types.specs.MadeCore.{MadeCore, named_by_core}
use Rattle.smith_scopes.specs.Scopes.{Contents, last_of, own_marked, own_scope, outer_marked, outer_scopes}
use Rattle.smith_tree.specs.declared.choices.TypeKind.{TypeKind}
use Rattle.smith_tree.specs.declared.choices.TypeKind.TheVariants as kind
use Rattle.smith_tree.specs.declared.choices.DeclarationItem.{DeclarationItem}
use Rattle.smith_tree.specs.declared.choices.DeclarationItem.TheVariants as item
use Rattle.smith_types.specs.declared.make.externs.ExternNames.{ExternNames}
use Rattle.smith_types.specs.declared.make.scoped.TypeBody.{TypeBody}
use Rattle.smith_types.specs.declared.make.scoped.TypeBody.TheVariants.{Component, Instance}

-- the type of a component (true) or of an instance (false) that declares these
abbrev pub declaring : Bool → FullDecls → FullEntry
declaring true ds = component_type ds
declaring false ds = instance_type ds

-- a type that declares in a scope of its own
abbrev pub MadeScoped : Config → Marked → List Marked → Bool → List ℕ → ℕ → FullEntry → List ℕ → ℕ → Type 0
MadeScoped config own outer importing b fuel e rest left = (ds : FullDecls)
    × MadeDeclarations config importing (own ∷ outer) 0 (nothing_so_far (own ∷ outer)) b fuel ds rest left × (e ≡ declaring importing ds)

-- a type of a kind
abbrev pub MadeKind : Config → Marked → List Marked → TypeKind → List ℕ → ℕ → FullEntry → List ℕ → ℕ → Type 0
MadeKind config own outer kind.Defined b fuel e rest left = (t : DefValType) × MadeDefined config own b fuel t rest left × (e ≡ defined t)
MadeKind config own outer kind.Function b fuel e rest left = (s : Signature) × MadeFunction config own b fuel s rest left × (e ≡ function s)
MadeKind config own outer kind.Component b fuel e rest left = MadeScoped config own outer true b fuel e rest left
MadeKind config own outer kind.Instance b fuel e rest left = MadeScoped config own outer false b fuel e rest left

-- a core type, and a type, as declarations
abbrev pub MadeCoreTypeDecl : Config → Marked → List ℕ → ℕ → FullDecl → List ℕ → ℕ → Type 0
MadeCoreTypeDecl config own b fuel d rest left = (c : CoreEntry) × MadeCore config (scope_in own) b fuel c rest left
    × (d ≡ core_type_decl c (keeps_functions (named_by_core own.core_types c)))

abbrev pub MadeTypeDecl : Config → Marked → List Marked → List ℕ → ℕ → FullDecl → List ℕ → ℕ → Type 0
MadeTypeDecl config own outer b fuel d rest left = (e : FullEntry) × Made config own outer b fuel e rest left × (d ≡ type_decl e)

-- what a declaration needs: an export and an outer alias something to name, and a type that one more scope may nest
abbrev pub HasTarget : Config → Marked → List Marked → DeclarationItem → Type 0
HasTarget config own outer item.Export = has_export own ≡ true
HasTarget config own outer item.Alias = 0 < length (occupied (own ∷ outer))
HasTarget config own outer item.CoreType = Unit {0}
HasTarget config own outer item.«Type» = length (own ∷ outer) < config.max_nesting_depth

-- an import, or none of the sort that no import is declared
abbrev pub MaybeImport : Config → Marked → List NamedExtern → List ℕ → Option FullDecl → List ℕ → Type 0
MaybeImport config own imports b None rest = NoImportDecl config true own b rest
MaybeImport config own imports b (Some d) rest = ReadsImportDecl config own imports b d rest

-- the import of the program as a declaration, if there is one
abbrev pub shown_import_decl : Option Import → Option FullDecl
shown_import_decl None = None
shown_import_decl (Some i) = Some (import_decl (string_bytes i.name) (shown_url i.url) i.ty)

-- what is imported, if something is
abbrev pub imported_by : Option FullDecl → List NamedExtern
imported_by None = []
imported_by (Some d) = import_of d

-- the sets have the names so far, and those in the URLs so far
abbrev pub HoldsExterns : ExternNames → List NamedExtern → Type 0
HoldsExterns sets so_far = Holds sets.names (names so_far) × Holds sets.urls (url_names so_far)

-- a declaration that neither imports nor exports
pub record IsNameless (d : FullDecl) : Type 0 where
  pub no_import : import_of d ≡ []
  pub no_export : export_of d ≡ []

-- A declaration that is no import: the sets have the names that they had, and its own if it exports.
pub record ExportsOnly (old new : ExternNames) (d : FullDecl) : Type 0 where
  pub no_import : import_of d ≡ []
  pub gains : (so_far : List NamedExtern) → HoldsExterns old so_far → HoldsExterns new (so_far ++ export_of d)

-- The scopes around the last one are as they were.
pub record SameOuter (old new : List Contents) : Type 0 where
  pub around : drop 1 (reverse new) ≡ drop 1 (reverse old)
  pub depth : length new ≡ length old

-- The last scope is as the declaration leaves it.
pub record Declares (old new : List Contents) (d : FullDecl) : Type 0 where
  pub own : own_marked new ≡ marked_after d (outer_marked old) (own_marked old)
  pub outer : outer_marked new ≡ outer_marked old

-- A call that declares in the last scope. The scopes around that stay as they were, also after a refusal.
pub record DeclaresInLast {A : Type 0} (result : Result A Error) (shown : A → FullDecl) (old new : List Contents) : Type 0 where
  pub declares : IfOk result (λ x. Declares old new (shown x))
  pub outer : SameOuter old new

-- An outer alias keeps what it names.
abbrev pub IsAliased : List Marked → FullDecl → Type 0
IsAliased scopes (type_alias count i k) = (e : Entry) × (k ≡ keeps_type e) × (type_named (scopes_in_marked scopes) count i ≡ Some e)
IsAliased scopes (core_type_alias count i k) = (e : CoreEntry) × (k ≡ keeps_core_type e) × (core_type_named (scopes_in_marked scopes) count i ≡ Some e)
IsAliased scopes d = ⊥

-- The mark is the type's mark in these scopes, if marks are kept.
abbrev pub IsMarkOf : List Contents → FullEntry → Mark → Type 0
IsMarkOf scopes e m = (own_marked scopes).keeps ≡ true → m ≡ mark e (own_marked scopes) (outer_marked scopes)

-- There are at most that many types and core types.
pub record HasAtMost (n : ℕ) (own : Marked) : Type 0 where
  pub types : length own.types ≤ n
  pub core_types : length own.core_types ≤ n

-- There are few scopes, and one more declaration fits into the last one.
pub record HasRoom (scopes : List Contents) : Type 0 where
  pub shallow : length scopes ≤ 1002
  pub few : HasAtMost 100 (own_marked scopes)

-- An empty scope was opened in the last one.
pub record OpensInner (old new : List Contents) : Type 0 where
  pub opened : new ≡ old ++ empty_marked (last_of old).keeps ∷ []
  pub deep : 2 ≤ length new
  pub depth : length new ≡ length old + 1
  pub fresh : own_marked new ≡ empty_marked (own_marked old).keeps
  pub around : outer_marked new ≡ own_marked old ∷ outer_marked old

-- these in front of those
abbrev pub onto : List FullDecl → FullDecls → FullDecls
onto [] ds = ds
onto (x ∷ xs) ds = then_decls x (onto xs ds)

-- Are they the declarations of a component type, which may import?
abbrev pub is_importing : TypeBody → Bool
is_importing (Component body) = true
is_importing (Instance body) = false

abbrev pub defs_in : TypeBody → List FullDecl
defs_in (Component body) = map full_component_decl body.defs.items
defs_in (Instance body) = map full_instance_decl body.defs.items

-- the sets of names have what is imported and exported so far
abbrev pub HoldsNames : TypeBody → SoFar → Type 0
HoldsNames (Component body) so_far = HoldsExterns body.names.imports so_far.imports × HoldsExterns body.names.exports so_far.exports
HoldsNames (Instance body) so_far = HoldsExterns body.exports so_far.exports

-- One declaration was added.
pub record AddsDeclaration (config : Config) (scopes next : List Contents) (so_far : SoFar) (old new : TypeBody) (bytes : List ℕ) (fuel : ℕ) (rest : List ℕ)
    (left : ℕ) : Type 0 where
  pub added : FullDecl
  pub made : MadeDeclaration config (is_importing old) (outer_marked scopes) so_far bytes fuel added rest left
  pub declares : Declares scopes next added
  pub names : HoldsNames new (after_one (outer_marked scopes) so_far added)
  pub defs : defs_in new ≡ defs_in old ++ added ∷ []
  pub of : is_importing new ≡ is_importing old

-- These are all declarations of a type, and its scope is as they leave it.
pub record DeclaresAll (config : Config) (importing : Bool) (outer : List Marked) (bytes : List ℕ) (fuel : ℕ) (declared : TypeBody) (own : Marked)
    (rest : List ℕ) (left : ℕ) : Type 0 where
  pub made : MadeDeclarations config importing outer 0 (nothing_so_far outer) bytes fuel (in_order (defs_in declared)) rest left
  pub closed : own ≡ marked_after_all (in_order (defs_in declared)) outer (nothing_so_far outer).own
  pub of : is_importing declared ≡ importing

-- A loop of declarations after that many turns: what completes the declarations from here completes all of them.
pub record Progress (config : Config) (importing : Bool) (outer : List Marked) (start : List ℕ) (first_fuel done : ℕ) (scopes : List Contents)
    (declared : TypeBody) (bytes : List ℕ) (fuel : ℕ) : Type 0 where
  pub so_far : SoFar
  pub of : is_importing declared ≡ importing
  pub own_is : own_marked scopes ≡ so_far.own
  pub outer_is : outer_marked scopes ≡ outer
  pub names : HoldsNames declared so_far
  pub few : HasAtMost done so_far.own
  pub closed : so_far.own ≡ marked_after_all (in_order (defs_in declared)) outer (nothing_so_far outer).own
  pub onward : (ds : FullDecls) (rest : List ℕ) (left : ℕ) → MadeDeclarations config importing outer done so_far bytes fuel ds rest left
      → MadeDeclarations config importing outer 0 (nothing_so_far outer) start first_fuel (onto (defs_in declared) ds) rest left

-- Types can be read: the limits fit together, the value types are the ones that they allow, and there are few scopes.
pub record CanReadTypes (config : Config) (valtypes : List ValType) (scopes : List Contents) : Type 0 where
  pub configured : valtypes ≡ configured config
  pub consistent : IsConsistent config
  pub shallow : length scopes ≤ 1001

-- A type as the bytes and the fuel say: it is well formed in the scopes, within the limits, and no larger than the fuel
-- that it took; all that it names was offered; and its own scopes nest no deeper than they may.
pub record MadeToFit (config : Config) (scopes : List Contents) (bytes : List ℕ) (fuel : ℕ) (t : FullEntry) (rest : List ℕ) (left : ℕ) : Type 0 where
  pub made : Made config (own_marked scopes) (outer_marked scopes) bytes fuel t rest left
  pub formed : FormedEntry (plain t) (own_scope scopes) (outer_scopes scopes)
  pub offered : OfferedEntry (plain t) (own_marked scopes) (outer_marked scopes)
  pub limits : EntryLimits config (plain t)
  pub nesting : length scopes + nesting (plain t) ≤ max (length scopes + 1) config.max_nesting_depth
  pub size : size (plain t) + left ≤ fuel
