-- What is asked of components beside, which all that are well formed meet: value types are of types that export nothing, no import is of a
-- type that is equal to another, and instance types import nothing.
use Rattle.std.specs.Prelude.{◌≡◌, Bool, true, false, List, [], ◌∷◌, Some, slice_get}
use Rattle.std.specs.List.{AllByRecursion}
use Rattle.smith_syntax.specs.Entries.{Entry, defined, function, component_type, instance_type}
use Rattle.smith_syntax.specs.Entries.{Decl, Decls, core_type_decl, type_decl, type_alias, core_type_alias, import_decl, export_decl, no_decls, then_decls}
use Rattle.smith_syntax.specs.WellFormed.{is_type_eq}
use Rattle.smith_syntax.specs.declared.deftype.ComponentTypeRef.{ComponentTypeRef}
use Rattle.smith_syntax.specs.declared.types.ComponentValType.{ComponentValType}
use Rattle.smith_syntax.specs.declared.types.ComponentValType.TheVariants.{Primitive, Indexed}
use Rattle.smith_tree.specs.Spaces.{Spaces, after_part as spaces_after, no_spaces}
use Rattle.smith_tree.specs.Tree.{Tree, Part, ends, first, custom, core_module, core_types, component, canons, imports, exports, types as types_part}
use Rattle.smith_tree.specs.Bodies.{Body, after_decl, empty_body, facts, with_facts}
use Rattle.smith_tree.specs.Facts.{FactScope, Facts, members}
use Rattle.smith_tree.specs.Sizes.{signature_members}
use Rattle.smith_tree.specs.Validates.{after_part, imported_references}

-- It is of no type of instances that export anything.
abbrev pub IsOfValues : List Facts → ComponentValType → Type 0
IsOfValues types (Primitive p) = Unit {0}
IsOfValues types (Indexed i) = (f : Facts) → slice_get types i ≡ Some f → f.exports ≡ []

abbrev pub IsUsualImport : Bool → ComponentTypeRef → Type 0
IsUsualImport asks r = (asks ≡ true) × (is_type_eq r ≡ false)

abbrev mutual
  pub IsUsualEntry : Entry → FactScope → List FactScope → Type 0
  IsUsualEntry (defined t) own outer = AllByRecursion (IsOfValues own.types) (members t)
  IsUsualEntry (function s) own outer = AllByRecursion (IsOfValues own.types) (signature_members s)
  IsUsualEntry (component_type ds) own outer = AreUsualDecls true ds (own ∷ outer) empty_body
  IsUsualEntry (instance_type ds) own outer = AreUsualDecls false ds (own ∷ outer) empty_body

  pub IsUsualDecl : Bool → Decl → List FactScope → Body → Type 0
  IsUsualDecl asks (core_type_decl t k) outer b = Unit {0}
  IsUsualDecl asks (type_decl e) outer b = IsUsualEntry e b.own outer
  IsUsualDecl asks (type_alias count i k) outer b = Unit {0}
  IsUsualDecl asks (core_type_alias count i k) outer b = Unit {0}
  IsUsualDecl asks (import_decl name n r) outer b = IsUsualImport asks r
  IsUsualDecl asks (export_decl name n r) outer b = Unit {0}

  pub AreUsualDecls : Bool → Decls → List FactScope → Body → Type 0
  AreUsualDecls asks no_decls outer b = Unit {0}
  AreUsualDecls asks (then_decls d ds) outer b = IsUsualDecl asks d outer b × AreUsualDecls asks ds outer (after_decl d outer b)

abbrev pub AreUsualEntries : List Entry → List FactScope → Body → Type 0
AreUsualEntries [] outer b = Unit {0}
AreUsualEntries (e ∷ es) outer b = IsUsualEntry e b.own outer × AreUsualEntries es outer (with_facts b (facts e b.own outer ∷ []))

abbrev mutual
  pub AreUsualParts : Tree → Spaces → List FactScope → Body → Type 0
  AreUsualParts ends s outer b = Unit {0}
  AreUsualParts (first p t) s outer b = IsUsualPart p s outer b × AreUsualParts t (spaces_after s p) outer (after_part p s outer b)

  pub IsUsualPart : Part → Spaces → List FactScope → Body → Type 0
  IsUsualPart (custom name contents) s outer b = Unit {0}
  IsUsualPart (core_module text) s outer b = Unit {0}
  IsUsualPart (core_types ts) s outer b = Unit {0}
  IsUsualPart (component t) s outer b = AreUsualParts t no_spaces (b.own ∷ outer) empty_body
  IsUsualPart (types_part ts) s outer b = AreUsualEntries ts outer b
  IsUsualPart (canons fs) s outer b = Unit {0}
  IsUsualPart (imports is) s outer b = AllByRecursion (IsUsualImport true) (imported_references is)
  IsUsualPart (exports es) s outer b = Unit {0}

abbrev pub IsUsual : Tree → Type 0
IsUsual t = AreUsualParts t no_spaces [] empty_body
