-- A component without an item, and without all that refers to it; every other index is renumbered (Explainer.md, index spaces).
use Rattle.std.specs.Prelude.{ℕ, ◌+◌, Bool, List, [], ◌∷◌, ◌++◌, Option, Some, None, length, nat_eq, if◌then◌else◌}
use Rattle.std.specs.Option.{is_some, option_map, option_to_list}
use Rattle.smith_format.specs.CoreTypes.{Function}
use Rattle.smith_format.specs.declared.types.EntityType.{EntityType}
use Rattle.smith_format.specs.declared.types.EntityType.TheVariants as entity
use Rattle.smith_syntax.specs.Entries.{Case, CoreEntry, core_func, core_module, Decl, Decls, DefValType, Entry, Field, ImportEntry, ModuleDecl, Signature}
use Rattle.smith_syntax.specs.Entries.{aliases, declares, exports, imports, defined, function, component_type, instance_type}
use Rattle.smith_syntax.specs.Entries.{core_type_decl, type_decl, type_alias, core_type_alias, import_decl, export_decl, no_decls, then_decls}
use Rattle.smith_syntax.specs.WellFormed.{is_type_eq}
use Rattle.smith_syntax.specs.declared.deftype.ComponentTypeRef.{ComponentTypeRef}
use Rattle.smith_syntax.specs.declared.deftype.ComponentTypeRef.TheVariants as to
use Rattle.smith_syntax.specs.declared.types.ComponentValType.{ComponentValType}
use Rattle.smith_syntax.specs.declared.types.ComponentValType.TheVariants.{Primitive, Indexed}
use Rattle.smith_tree.specs.Tree.{Canon, lift, lower, ExportEntry, Tree, Part, ends, first}
use Rattle.smith_tree.specs.Tree as part
use Rattle.smith_edit.specs.Items.{core_items, decl_items, entry_items, function_members, module_decl_items, none_inside, part_items}
use Rattle.smith_edit.specs.Removal.{inside, past, removes}
use Rattle.smith_edit.specs.Renumbering.{Renumbering, entry_at, fate_if, kept_index, new_index, with_like}
use Rattle.smith_edit.specs.Shapes.{Shape, alone, cases, fields, labels, pair, shape, single, values}
use Rattle.smith_edit.specs.Walk.{Walk, aliased_core_type, aliased_type, entered, skipped}
use Rattle.smith_edit.specs.Walk.{with_core_function, with_core_type, with_function, with_type}
use Rattle.smith_edit.specs.declared.renumbering.Fate.{Fate}
use Rattle.smith_edit.specs.declared.renumbering.Fate.TheVariants.{Kept, Changed, Removed}
use Rattle.smith_edit.specs.declared.walk.Removal.{Removal}
use Rattle.smith_edit.specs.declared.walk.Scope.{Scope}

-- Members: they are in no index space, and have nothing inside.
abbrev pub members : {A : Type 0} → (A → Option A) → Removal → List A → List A
members edited r [] = []
members edited r (x ∷ xs) = option_to_list (if removes r then None else edited x) ++ members edited (past 1 r) xs

-- The members that are left of a compound type. It is removed if none is left.
abbrev pub left_of : {A : Type 0} → List A → List A → Option (List A)
left_of [] new = Some new
left_of (x ∷ xs) [] = None
left_of (x ∷ xs) (y ∷ ys) = Some (y ∷ ys)

-- types of values (Explainer.md, defvaltype)

abbrev pub value_edited : Renumbering → ComponentValType → Option ComponentValType
value_edited s (Primitive p) = Some (Primitive p)
value_edited s (Indexed i) = option_map Indexed (new_index s i)

abbrev pub field_edited : Renumbering → Field → Option Field
field_edited s f = option_map (λ v. (f.0, v)) (value_edited s f.1)

abbrev pub case_edited : Renumbering → Case → Option Case
case_edited s c = elim (c.1) [ None ↦ Some c | Some v ↦ option_map (λ w. (c.0, Some w)) (value_edited s v) ]

-- a member that need not be there
abbrev pub optional_edited : Renumbering → Removal → Option ComponentValType → Option ComponentValType
optional_edited s r None = None
optional_edited s r (Some v) = if removes r then None else value_edited s v

abbrev pub shape_edited : Renumbering → Removal → Shape → Option DefValType
shape_edited s r (alone t) = Some t
shape_edited s r (single type v) = option_map type (value_edited s v)
shape_edited s r (fields type fs) = option_map type (left_of fs (members (field_edited s) r fs))
shape_edited s r (cases type cs) = option_map type (left_of cs (members (case_edited s) r cs))
shape_edited s r (values type vs) = option_map type (left_of vs (members (value_edited s) r vs))
shape_edited s r (labels type ns) = option_map type (left_of ns (members Some r ns))
shape_edited s r (pair type ok err) = Some (type (optional_edited s r ok) (optional_edited s (past (length (option_to_list ok)) r) err))

abbrev pub defined_edited : Renumbering → Removal → DefValType → Option DefValType
defined_edited s r t = shape_edited s r (shape t)

abbrev pub signature_edited : Renumbering → Removal → Signature → Signature
signature_edited s r g = record { params = members (field_edited s) r g.params; result = optional_edited s (past (length g.params) r) g.result }

-- Entries in order: each is edited by what became of the ones before it.
module _ {A : Type 0} (items : A → ℕ) (edited : Walk → A → Option A) (adds : Scope → A → Option A → Scope) where
  -- an entry, if it is neither removed nor refers to what is
  abbrev pub one : Walk → A → Option A
  one w x = if removes w.removal then None else edited (skipped 1 w) x

  -- what is known after it
  abbrev pub after_one : Walk → A → Walk
  after_one w x = record w { removal = past (items x + 1) w.removal; own = adds w.own x (one w x) }

  -- the entries that are left, and what is known after them

  abbrev pub rows : Walk → List A → List A
  rows w [] = []
  rows w (x ∷ xs) = option_to_list (one w x) ++ rows (after_one w x) xs

  abbrev pub after_rows : Walk → List A → Walk
  after_rows w [] = w
  after_rows w (x ∷ xs) = after_rows (after_one w x) xs

-- core types (Explainer.md, core type definitions)

abbrev pub function_edited : Removal → Function → Function
function_edited r f = (members Some r f.0, members Some (past (length f.0) r) f.1)

abbrev pub entity_edited : Renumbering → EntityType → Option EntityType
entity_edited s (entity.Func i) = option_map entity.Func (new_index s i)
entity_edited s (entity.Tag t) = option_map (λ i. entity.Tag (record { func_type_idx = i })) (new_index s t.func_type_idx)
entity_edited s e = Some e

-- a declaration of a module type, the own types of which are the core types of a scope
abbrev pub module_decl_edited : Walk → ModuleDecl → Option ModuleDecl
module_decl_edited w (declares f) = Some (declares (function_edited w.removal f))
module_decl_edited w (imports m n e) = option_map (imports m n) (entity_edited w.own.core_types e)
module_decl_edited w (aliases count i) = option_map (aliases count) (aliased_core_type w count i)
module_decl_edited w (exports n e) = option_map (exports n) (entity_edited w.own.core_types e)

abbrev pub after_module_decl : Scope → ModuleDecl → Option ModuleDecl → Scope
after_module_decl s (declares f) new = with_core_type s (fate_if (is_some new) Kept)
after_module_decl s (aliases count i) new = with_core_type s (fate_if (is_some new) Kept)
after_module_decl s d new = s

abbrev pub core_edited : Walk → CoreEntry → CoreEntry
core_edited w (core_func f) = core_func (function_edited w.removal f)
core_edited w (core_module ds) = core_module (rows module_decl_items module_decl_edited after_module_decl (entered w) ds)

-- types, and what they declare (Explainer.md, type definitions)

abbrev pub ref_edited : Scope → ComponentTypeRef → Option ComponentTypeRef
ref_edited own (to.Module i) = option_map to.Module (new_index own.core_types i)
ref_edited own (to.Func i) = option_map to.Func (new_index own.types i)
ref_edited own (to.TypeEq i) = option_map to.TypeEq (new_index own.types i)
ref_edited own (to.Component i) = option_map to.Component (new_index own.types i)
ref_edited own (to.Instance i) = option_map to.Instance (new_index own.types i)

-- an export of a type that is equal to another is a type
abbrev pub after_decl : Scope → Decl → Option Decl → Scope
after_decl s (core_type_decl t k) new = with_core_type s (fate_if (is_some new) Kept)
after_decl s (type_decl e) new = with_type s (fate_if (is_some new) Kept)
after_decl s (type_alias count i k) new = with_type s (fate_if (is_some new) Kept)
after_decl s (core_type_alias count i k) new = with_core_type s (fate_if (is_some new) Kept)
after_decl s (import_decl name n r) new = s
after_decl s (export_decl name n r) new = if is_type_eq r then with_type s (fate_if (is_some new) Kept) else s

abbrev pub and_decl : Option Decl → Decls → Decls
and_decl None ds = ds
and_decl (Some d) ds = then_decls d ds

abbrev mutual
  pub entry_edited : Entry → Walk → Option Entry
  entry_edited (defined t) w = option_map defined (defined_edited w.own.types w.removal t)
  entry_edited (function g) w = Some (function (signature_edited w.own.types w.removal g))
  entry_edited (component_type ds) w = Some (component_type (decls_edited ds (entered w)))
  entry_edited (instance_type ds) w = Some (instance_type (decls_edited ds (entered w)))

  pub decl_edited : Decl → Walk → Option Decl
  decl_edited (core_type_decl t k) w = Some (core_type_decl (core_edited w t) k)
  decl_edited (type_decl e) w = option_map type_decl (entry_edited e w)
  decl_edited (type_alias count i k) w = option_map (λ j. type_alias count j k) (aliased_type w count i)
  decl_edited (core_type_alias count i k) w = option_map (λ j. core_type_alias count j k) (aliased_core_type w count i)
  decl_edited (import_decl name n r) w = option_map (import_decl name n) (ref_edited w.own r)
  decl_edited (export_decl name n r) w = option_map (export_decl name n) (ref_edited w.own r)

  pub decls_edited : Decls → Walk → Decls
  decls_edited no_decls w = no_decls
  decls_edited (then_decls d ds) w =
      let new : Option Decl = if removes w.removal then None else decl_edited d (skipped 1 w) in
      and_decl new (decls_edited ds (record w { removal = past (decl_items d + 1) w.removal; own = after_decl w.own d new }))

-- sections

-- core types always remain, unless they are removed
abbrev pub core_row : Walk → CoreEntry → Option CoreEntry
core_row w t = Some (core_edited w t)

abbrev pub after_core : Scope → CoreEntry → Option CoreEntry → Scope
after_core s t new = with_core_type s (fate_if (is_some new) Kept)

abbrev pub type_row : Walk → Entry → Option Entry
type_row w e = entry_edited e w

-- A function type that has fewer parameters or no result any more is changed.
abbrev pub type_fate : Entry → Option Entry → Fate
type_fate e None = Removed
type_fate e (Some new) = if nat_eq (function_members new) (function_members e) then Kept else Changed

abbrev pub after_type : Scope → Entry → Option Entry → Scope
after_type s e new = with_type s (type_fate e new)

-- The canonical function (Explainer.md, canonical definitions): a type or a function that is changed is no longer the core function's.
abbrev pub canon_edited : Walk → Canon → Option Canon
canon_edited w (lift c t) = elim (kept_index w.own.core_functions c) [ None ↦ None | Some d ↦ option_map (lift d) (kept_index w.own.types t) ]
canon_edited w (lower f) = option_map lower (kept_index w.own.functions f)

abbrev pub after_canon : Scope → Canon → Option Canon → Scope
after_canon s (lift c t) new = with_function s (fate_if (is_some new) Kept)
after_canon s (lower f) new = with_core_function s (fate_if (is_some new) Kept)

abbrev pub import_edited : Walk → ImportEntry → Option ImportEntry
import_edited w i = option_map (λ r. record i { to = r }) (ref_edited w.own i.to)

-- A function is changed if its type is.
abbrev pub after_ref : Scope → ComponentTypeRef → Bool → Scope
after_ref s (to.Func i) remains = with_function s (fate_if remains (entry_at s.types i).fate)
after_ref s r remains = s

abbrev pub after_import : Scope → ImportEntry → Option ImportEntry → Scope
after_import s i new = after_ref s i.to (is_some new)

abbrev pub export_edited : Walk → ExportEntry → Option ExportEntry
export_edited w e = option_map (λ f. record e { func = f }) (new_index w.own.functions e.func)

-- An export of a function is one. An export of nothing is none.
abbrev pub after_export : Scope → ExportEntry → Option ExportEntry → Scope
after_export s e new = record s { functions = with_like s.functions e.func (is_some new) }

-- what became of the entries after a section
abbrev pub after_part : Walk → Part → Walk
after_part w (part.core_types ts) = after_rows core_items core_row after_core w ts
after_part w (part.component t) = skipped (part_items (part.component t)) w
after_part w (part.types ts) = after_rows entry_items type_row after_type w ts
after_part w (part.canons fs) = after_rows none_inside canon_edited after_canon w fs
after_part w (part.imports is) = after_rows none_inside import_edited after_import w is
after_part w (part.exports es) = after_rows none_inside export_edited after_export w es
after_part w p = w

abbrev pub and_part : Bool → Part → Tree → Tree
and_part removed p t = if removed then t else first p t

-- A section that is removed is removed with all of its entries.
abbrev pub within : Walk → Walk
within w = record w { removal = inside w.removal }

abbrev pub after_section : Walk → Part → Walk
after_section w p = record (after_part (within w) p) { removal = past (part_items p + 1) w.removal }

-- the sections of a component, and what is left of one
abbrev mutual
  pub tree_edited : Tree → Walk → Tree
  tree_edited ends w = ends
  tree_edited (first p t) w = and_part (removes w.removal) (part_edited p (within w)) (tree_edited t (after_section w p))

  pub part_edited : Part → Walk → Part
  part_edited (part.core_types ts) w =
      part.core_types (rows core_items core_row after_core w ts)
  part_edited (part.component t) w = part.component (tree_edited t (entered w))
  part_edited (part.types ts) w = part.types (rows entry_items type_row after_type w ts)
  part_edited (part.canons fs) w = part.canons (rows none_inside canon_edited after_canon w fs)
  part_edited (part.imports is) w = part.imports (rows none_inside import_edited after_import w is)
  part_edited (part.exports es) w = part.exports (rows none_inside export_edited after_export w es)
  part_edited p w = p
