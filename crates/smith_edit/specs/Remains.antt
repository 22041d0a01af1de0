-- What is left of a component without an item: the other items in their order, each as it was, but for its indexes and for what is inside it.
-- One that is not removed, and is not left, goes for a reason.
use Rattle.std.specs.Prelude.{◌≡◌, ◌⊎◌, ℕ, true, List, [], ◌∷◌, Option, None, Some, length}
use Rattle.std.specs.Option.{option_to_list}
use Rattle.smith_format.specs.CoreTypes.{Function}
use Rattle.smith_format.specs.declared.types.EntityType.{EntityType}
use Rattle.smith_format.specs.declared.types.EntityType.TheVariants as entity
use Rattle.smith_syntax.specs.Entries.{Case, CoreEntry, core_func, core_module, Decl, Decls, DefValType, Entry, Field, ImportEntry, ModuleDecl, Signature}
use Rattle.smith_syntax.specs.Entries.{aliases, declares, exports, imports, defined, function, component_type, instance_type}
use Rattle.smith_syntax.specs.Entries.{core_type_decl, type_decl, type_alias, core_type_alias, import_decl, export_decl, no_decls, then_decls}
use Rattle.smith_syntax.specs.declared.deftype.ComponentTypeRef.{ComponentTypeRef}
use Rattle.smith_syntax.specs.declared.deftype.ComponentTypeRef.TheVariants as to
use Rattle.smith_syntax.specs.declared.types.ComponentValType.{ComponentValType}
use Rattle.smith_syntax.specs.declared.types.ComponentValType.TheVariants.{Primitive, Indexed}
use Rattle.smith_tree.specs.Tree.{Canon, lift, lower, ExportEntry, Tree, Part, ends, first}
use Rattle.smith_tree.specs.Tree as part
use Rattle.smith_edit.specs.Edited.{after_canon, after_core, after_decl, after_export, after_import, after_module_decl, after_one, after_section, after_type}
use Rattle.smith_edit.specs.Edited.{canon_edited, core_row, decl_edited, export_edited, import_edited, module_decl_edited, type_row, within}
use Rattle.smith_edit.specs.Goes.{CanonGoes, DeclGoes, EntryGoes, IsCaseGone, IsGone, IsRefGone, IsValueGone, ModuleDeclGoes}
use Rattle.smith_edit.specs.Items.{core_items, decl_items, entry_items, module_decl_items, none_inside}
use Rattle.smith_edit.specs.Removal.{past, removes}
use Rattle.smith_edit.specs.Renumbering.{Renumbering}
use Rattle.smith_edit.specs.Shapes.{Shape, alone, cases, fields, labels, pair, shape, single, values}
use Rattle.smith_edit.specs.Walk.{Walk, entered, new_scope, skipped}
use Rattle.smith_edit.specs.declared.walk.Removal.{Removal}
use Rattle.smith_edit.specs.declared.walk.Removal.TheVariants.{Items}

-- Members in their order: each is left, or is removed, or goes.
module _ {A : Type 0} (Remains : A → A → Type 0) (Goes : A → Type 0) where
  abbrev pub Members : Removal → List A → List A → Type 0
  Members r [] ys = ys ≡ []
  Members r (x ∷ xs) ys = (((removes r ≡ true) ⊎ Goes x) × Members (past 1 r) xs ys)
      ⊎ ((y : A) × (rest : List A) × (ys ≡ y ∷ rest) × Remains x y × Members (past 1 r) xs rest)

-- Entries in their order: each is left, or is removed, or goes, by what became of the ones before it.
module _ {A : Type 0} (Remains : Walk → A → A → Type 0) (Goes : Walk → A → Type 0) (after : Walk → A → Walk) where
  abbrev pub InOrder : Walk → List A → List A → Type 0
  InOrder w [] ys = ys ≡ []
  InOrder w (x ∷ xs) ys = (((removes w.removal ≡ true) ⊎ Goes (skipped 1 w) x) × InOrder (after w x) xs ys)
      ⊎ ((y : A) × (rest : List A) × (ys ≡ y ∷ rest) × Remains (skipped 1 w) x y × InOrder (after w x) xs rest)

-- What refers to nothing goes for no reason.
abbrev pub Never : {A : Type 0} → A → Type 0
Never x = ⊥

-- the same
abbrev pub IsSame : {A : Type 0} → A → A → Type 0
IsSame x y = y ≡ x

-- types of values (Explainer.md, defvaltype)

abbrev pub ValueRemains : ComponentValType → ComponentValType → Type 0
ValueRemains (Primitive p) w = w ≡ Primitive p
ValueRemains (Indexed i) w = (j : ℕ) × (w ≡ Indexed j)

-- a member that need not be there
abbrev pub OptionalRemains : Renumbering → Removal → Option ComponentValType → Option ComponentValType → Type 0
OptionalRemains s r o p = Members ValueRemains (IsValueGone s) r (option_to_list o) (option_to_list p)

abbrev pub FieldRemains : Field → Field → Type 0
FieldRemains f g = (v : ComponentValType) × (g ≡ (f.0, v)) × ValueRemains f.1 v

abbrev pub IsFieldGone : Renumbering → Field → Type 0
IsFieldGone s f = IsValueGone s f.1

-- the type of a case, if it has one
abbrev pub TypeRemains : Option ComponentValType → Option ComponentValType → Type 0
TypeRemains None o = o ≡ None
TypeRemains (Some v) o = (w : ComponentValType) × (o ≡ Some w) × ValueRemains v w

abbrev pub CaseRemains : Case → Case → Type 0
CaseRemains c d = (o : Option ComponentValType) × (d ≡ (c.0, o)) × TypeRemains c.1 o

abbrev pub ShapeRemains : Renumbering → Removal → Shape → DefValType → Type 0
ShapeRemains s r (alone t) u = u ≡ t
ShapeRemains s r (single type v) u = (w : ComponentValType) × (u ≡ type w) × ValueRemains v w
ShapeRemains s r (fields type fs) u = (left : List Field) × (u ≡ type left) × Members FieldRemains (IsFieldGone s) r fs left
ShapeRemains s r (cases type cs) u = (left : List Case) × (u ≡ type left) × Members CaseRemains (IsCaseGone s) r cs left
ShapeRemains s r (values type vs) u = (left : List ComponentValType) × (u ≡ type left) × Members ValueRemains (IsValueGone s) r vs left
ShapeRemains s r (labels type ns) u = (left : List (List ℕ)) × (u ≡ type left) × Members IsSame Never r ns left
ShapeRemains s r (pair type ok err) u = (left : Option ComponentValType) × (other : Option ComponentValType) × (u ≡ type left other)
    × OptionalRemains s r ok left × OptionalRemains s (past (length (option_to_list ok)) r) err other

abbrev pub DefinedRemains : Renumbering → Removal → DefValType → DefValType → Type 0
DefinedRemains s r t u = ShapeRemains s r (shape t) u

abbrev pub SignatureRemains : Renumbering → Removal → Signature → Signature → Type 0
SignatureRemains s r g h = Members FieldRemains (IsFieldGone s) r g.params h.params × OptionalRemains s (past (length g.params) r) g.result h.result

-- core types (Explainer.md, core type definitions)

abbrev pub FunctionRemains : Removal → Function → Function → Type 0
FunctionRemains r f g = Members IsSame Never r f.0 g.0 × Members IsSame Never (past (length f.0) r) f.1 g.1

abbrev pub EntityRemains : EntityType → EntityType → Type 0
EntityRemains (entity.Func i) e = (j : ℕ) × (e ≡ entity.Func j)
EntityRemains (entity.Table t) e = e ≡ entity.Table t
EntityRemains (entity.Memory m) e = e ≡ entity.Memory m
EntityRemains (entity.Global g) e = e ≡ entity.Global g
EntityRemains (entity.Tag t) e = (j : ℕ) × (e ≡ entity.Tag (record { func_type_idx = j }))

-- a declaration of a module type
abbrev pub ModuleDeclRemains : Walk → ModuleDecl → ModuleDecl → Type 0
ModuleDeclRemains w (declares f) d = (g : Function) × (d ≡ declares g) × FunctionRemains w.removal f g
ModuleDeclRemains w (imports m n e) d = (f : EntityType) × (d ≡ imports m n f) × EntityRemains e f
ModuleDeclRemains w (aliases count i) d = (j : ℕ) × (d ≡ aliases count j)
ModuleDeclRemains w (exports n e) d = (f : EntityType) × (d ≡ exports n f) × EntityRemains e f

abbrev pub CoreRemains : Walk → CoreEntry → CoreEntry → Type 0
CoreRemains w (core_func f) t = (g : Function) × (t ≡ core_func g) × FunctionRemains w.removal f g
CoreRemains w (core_module ds) t = (left : List ModuleDecl) × (t ≡ core_module left)
    × InOrder ModuleDeclRemains ModuleDeclGoes (after_one module_decl_items module_decl_edited after_module_decl) (entered w) ds left

-- types, and what they declare (Explainer.md, type definitions)

abbrev pub RefRemains : ComponentTypeRef → ComponentTypeRef → Type 0
RefRemains (to.Module i) r = (j : ℕ) × (r ≡ to.Module j)
RefRemains (to.Func i) r = (j : ℕ) × (r ≡ to.Func j)
RefRemains (to.TypeEq i) r = (j : ℕ) × (r ≡ to.TypeEq j)
RefRemains (to.Component i) r = (j : ℕ) × (r ≡ to.Component j)
RefRemains (to.Instance i) r = (j : ℕ) × (r ≡ to.Instance j)

-- what is known after a declaration
abbrev pub after_one_decl : Walk → Decl → Walk
after_one_decl w d = after_one decl_items (λ v x. decl_edited x v) after_decl w d

abbrev mutual
  pub EntryRemains : Walk → Entry → Entry → Type 0
  EntryRemains w (defined t) e = (u : DefValType) × (e ≡ defined u) × DefinedRemains w.own.types w.removal t u
  EntryRemains w (function g) e = (h : Signature) × (e ≡ function h) × SignatureRemains w.own.types w.removal g h
  EntryRemains w (component_type ds) e = (left : Decls) × (e ≡ component_type left) × DeclsRemain (entered w) ds left
  EntryRemains w (instance_type ds) e = (left : Decls) × (e ≡ instance_type left) × DeclsRemain (entered w) ds left

  pub DeclRemains : Walk → Decl → Decl → Type 0
  DeclRemains w (core_type_decl t k) d = (u : CoreEntry) × (d ≡ core_type_decl u k) × CoreRemains w t u
  DeclRemains w (type_decl e) d = (f : Entry) × (d ≡ type_decl f) × EntryRemains w e f
  DeclRemains w (type_alias count i k) d = (j : ℕ) × (d ≡ type_alias count j k)
  DeclRemains w (core_type_alias count i k) d = (j : ℕ) × (d ≡ core_type_alias count j k)
  DeclRemains w (import_decl name n r) d = (q : ComponentTypeRef) × (d ≡ import_decl name n q) × RefRemains r q
  DeclRemains w (export_decl name n r) d = (q : ComponentTypeRef) × (d ≡ export_decl name n q) × RefRemains r q

  -- declarations in their order, as entries are
  pub DeclsRemain : Walk → Decls → Decls → Type 0
  DeclsRemain w no_decls es = es ≡ no_decls
  DeclsRemain w (then_decls d ds) es = (((removes w.removal ≡ true) ⊎ DeclGoes (skipped 1 w) d) × DeclsRemain (after_one_decl w d) ds es)
      ⊎ ((e : Decl) × (rest : Decls) × (es ≡ then_decls e rest) × DeclRemains (skipped 1 w) d e × DeclsRemain (after_one_decl w d) ds rest)

-- sections

abbrev pub ImportRemains : ImportEntry → ImportEntry → Type 0
ImportRemains i j = (r : ComponentTypeRef) × (j ≡ record i { to = r }) × RefRemains i.to r

abbrev pub ImportGoes : Walk → ImportEntry → Type 0
ImportGoes w i = IsRefGone w.own i.to

abbrev pub ExportRemains : ExportEntry → ExportEntry → Type 0
ExportRemains e f = (func : ℕ) × (f ≡ record e { func = func })

abbrev pub ExportGoes : Walk → ExportEntry → Type 0
ExportGoes w e = IsGone w.own.functions e.func

abbrev pub CanonRemains : Canon → Canon → Type 0
CanonRemains (lift c t) f = (d : ℕ) × (u : ℕ) × (f ≡ lift d u)
CanonRemains (lower i) f = (j : ℕ) × (f ≡ lower j)

-- sections in their order: each is left, or is removed
abbrev mutual
  pub TreeRemains : Walk → Tree → Tree → Type 0
  TreeRemains w ends u = u ≡ ends
  TreeRemains w (first p t) u = ((removes w.removal ≡ true) × TreeRemains (after_section w p) t u)
      ⊎ ((q : Part) × (rest : Tree) × (u ≡ first q rest) × PartRemains (within w) p q × TreeRemains (after_section w p) t rest)

  pub PartRemains : Walk → Part → Part → Type 0
  PartRemains w (part.custom name contents) q = q ≡ part.custom name contents
  PartRemains w (part.core_module text) q = q ≡ part.core_module text
  PartRemains w (part.core_types ts) q = (left : List CoreEntry) × (q ≡ part.core_types left)
      × InOrder CoreRemains (λ v. Never) (after_one core_items core_row after_core) w ts left
  PartRemains w (part.component t) q = (left : Tree) × (q ≡ part.component left) × TreeRemains (entered w) t left
  PartRemains w (part.types ts) q = (left : List Entry) × (q ≡ part.types left)
      × InOrder EntryRemains EntryGoes (after_one entry_items type_row after_type) w ts left
  PartRemains w (part.canons fs) q = (left : List Canon) × (q ≡ part.canons left)
      × InOrder (λ v. CanonRemains) CanonGoes (after_one none_inside canon_edited after_canon) w fs left
  PartRemains w (part.imports is) q = (left : List ImportEntry) × (q ≡ part.imports left)
      × InOrder (λ v. ImportRemains) ImportGoes (after_one none_inside import_edited after_import) w is left
  PartRemains w (part.exports es) q = (left : List ExportEntry) × (q ≡ part.exports left)
      × InOrder (λ v. ExportRemains) ExportGoes (after_one none_inside export_edited after_export) w es left

-- It is what is left of the component without the k-th item.
abbrev pub IsLeftWithout : ℕ → Tree → Tree → Type 0
IsLeftWithout k t less = TreeRemains (record { removal = Items k k; own = new_scope; outer = [] }) t less
