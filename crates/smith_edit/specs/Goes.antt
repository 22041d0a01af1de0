-- Why an item goes that is not removed itself: it refers to what goes, or has no member left.
use Rattle.std.specs.Prelude.{◌≡◌, ◌⊎◌, ℕ, true, List, [], ◌∷◌, Some, slice_get}
use Rattle.smith_format.specs.declared.types.EntityType.{EntityType}
use Rattle.smith_format.specs.declared.types.EntityType.TheVariants as entity
use Rattle.smith_syntax.specs.Entries.{Case, Decl, DefValType, Entry, Field, ModuleDecl}
use Rattle.smith_syntax.specs.Entries.{aliases, declares, exports, imports, defined}
use Rattle.smith_syntax.specs.Entries.{core_type_decl, type_decl, type_alias, core_type_alias, import_decl, export_decl}
use Rattle.smith_syntax.specs.declared.deftype.ComponentTypeRef.{ComponentTypeRef}
use Rattle.smith_syntax.specs.declared.deftype.ComponentTypeRef.TheVariants as to
use Rattle.smith_syntax.specs.declared.types.ComponentValType.{ComponentValType}
use Rattle.smith_syntax.specs.declared.types.ComponentValType.TheVariants.{Primitive, Indexed}
use Rattle.smith_tree.specs.Tree.{Canon, lift, lower}
use Rattle.smith_edit.specs.Removal.{past, removes}
use Rattle.smith_edit.specs.Renumbering.{Renumbering, entry_at}
use Rattle.smith_edit.specs.Shapes.{Shape, cases, fields, labels, shape, single, values}
use Rattle.smith_edit.specs.Walk.{Walk}
use Rattle.smith_edit.specs.declared.walk.Removal.{Removal}
use Rattle.smith_edit.specs.declared.renumbering.Fate.TheVariants.{Kept, Removed}
use Rattle.smith_edit.specs.declared.walk.Scope.{Scope}

-- the entry of that index went; it is not as it was

abbrev pub IsGone : Renumbering → ℕ → Type 0
IsGone s i = (entry_at s i).fate ≡ Removed

abbrev pub Differs : Renumbering → ℕ → Type 0
Differs s i = ¬ ((entry_at s i).fate ≡ Kept)

-- what an import or an export is of went
abbrev pub IsRefGone : Scope → ComponentTypeRef → Type 0
IsRefGone own (to.Module i) = IsGone own.core_types i
IsRefGone own (to.Func i) = IsGone own.types i
IsRefGone own (to.TypeEq i) = IsGone own.types i
IsRefGone own (to.Component i) = IsGone own.types i
IsRefGone own (to.Instance i) = IsGone own.types i

-- what an outer alias names went, in one of these scopes, innermost first
pub record IsAliasedGone (space : Scope → Renumbering) (scopes : List Scope) (count i : ℕ) : Type 0 where
  pub scope : Scope
  pub named : slice_get scopes count ≡ Some scope
  pub gone : IsGone (space scope) i

-- the type of a value went
abbrev pub IsValueGone : Renumbering → ComponentValType → Type 0
IsValueGone s (Primitive p) = ⊥
IsValueGone s (Indexed i) = IsGone s i

abbrev pub IsCaseGone : Renumbering → Case → Type 0
IsCaseGone s c = (v : ComponentValType) × (c.1 ≡ Some v) × IsValueGone s v

-- each member is removed, or goes
abbrev pub AllGo : {A : Type 0} → (A → Type 0) → Removal → List A → Type 0
AllGo Goes r [] = Unit {0}
AllGo Goes r (x ∷ xs) = ((removes r ≡ true) ⊎ Goes x) × AllGo Goes (past 1 r) xs

-- there are members, and none is left
abbrev pub NoneLeft : {A : Type 0} → (A → Type 0) → Removal → List A → Type 0
NoneLeft Goes r [] = ⊥
NoneLeft Goes r (x ∷ xs) = AllGo Goes r (x ∷ xs)

-- a type of values
abbrev pub ShapeGoes : Renumbering → Removal → Shape → Type 0
ShapeGoes s r (single type v) = IsValueGone s v
ShapeGoes s r (fields type fs) = NoneLeft (λ (f : Field). IsValueGone s f.1) r fs
ShapeGoes s r (cases type cs) = NoneLeft (IsCaseGone s) r cs
ShapeGoes s r (values type vs) = NoneLeft (IsValueGone s) r vs
ShapeGoes s r (labels type ns) = NoneLeft (λ (n : List ℕ). ⊥) r ns
ShapeGoes s r x = ⊥

abbrev pub DefinedGoes : Renumbering → Removal → DefValType → Type 0
DefinedGoes s r t = ShapeGoes s r (shape t)

-- A type of functions, components or instances never goes by itself.
abbrev pub EntryGoes : Walk → Entry → Type 0
EntryGoes w (defined t) = DefinedGoes w.own.types w.removal t
EntryGoes w e = ⊥

-- a declaration of a type
abbrev pub DeclGoes : Walk → Decl → Type 0
DeclGoes w (core_type_decl t k) = ⊥
DeclGoes w (type_decl e) = EntryGoes w e
DeclGoes w (type_alias count i k) = IsAliasedGone (λ s. s.types) (w.own ∷ w.outer) count i
DeclGoes w (core_type_alias count i k) = IsAliasedGone (λ s. s.core_types) (w.own ∷ w.outer) count i
DeclGoes w (import_decl name n r) = IsRefGone w.own r
DeclGoes w (export_decl name n r) = IsRefGone w.own r

-- a declaration of a module type
abbrev pub IsEntityGone : Renumbering → EntityType → Type 0
IsEntityGone s (entity.Func i) = IsGone s i
IsEntityGone s (entity.Tag t) = IsGone s t.func_type_idx
IsEntityGone s e = ⊥

abbrev pub ModuleDeclGoes : Walk → ModuleDecl → Type 0
ModuleDeclGoes w (declares f) = ⊥
ModuleDeclGoes w (imports m n e) = IsEntityGone w.own.core_types e
ModuleDeclGoes w (aliases count i) = IsAliasedGone (λ s. s.core_types) (w.own ∷ w.outer) count i
ModuleDeclGoes w (exports n e) = IsEntityGone w.own.core_types e

-- A canonical function goes also if what it refers to is changed.
abbrev pub CanonGoes : Walk → Canon → Type 0
CanonGoes w (lift c t) = Differs w.own.core_functions c ⊎ Differs w.own.types t
CanonGoes w (lower f) = Differs w.own.functions f
