-- A component with one of its items made simpler (Explainer.md, component definitions, type definitions). Items are counted as in Items.
use Rattle.std.specs.Prelude.{ℕ, zero, suc, ◌+◌, ◌-◌, Bool, true, false, List, [], ◌∷◌, Option, None, Some, map, bytes_eq, nat_lt, if◌then◌else◌}
use Rattle.std.specs.Option.{option_map}
use Rattle.smith_core.specs.Preamble.{core_preamble}
use Rattle.smith_syntax.specs.Entries.{Case, Decl, Decls, DefValType, Entry, Field, Signature}
use Rattle.smith_syntax.specs.Entries.{defined, function, component_type, instance_type}
use Rattle.smith_syntax.specs.Entries.{primitive_type}
use Rattle.smith_syntax.specs.Entries.{type_decl, import_decl, export_decl, no_decls, then_decls}
use Rattle.smith_syntax.specs.WellFormed.{decl_exports, decl_imports, names}
use Rattle.smith_syntax.specs.declared.types.PrimitiveValType.{PrimitiveValType}
use Rattle.smith_syntax.specs.declared.types.PrimitiveValType.TheVariants as prim
use Rattle.smith_tree.specs.Tree.{Tree, Part, ends, first, exports_of, imports_of}
use Rattle.smith_tree.specs.Tree as part
use Rattle.smith_tree.specs.WellFormed.{export_names, import_names}
use Rattle.smith_edit.specs.Edits.{export_renamed, import_renamed}
use Rattle.smith_edit.specs.Items.{decl_items, entry_items, part_items}
use Rattle.smith_edit.specs.Shapes.{Shape, cases, fields, labels, shape}
use Rattle.smith_edit.specs.ShortNames.{shorter_name}

-- The item itself, or one inside it.
abbrev pub itself_or : {A : Type 0} → Option A → (ℕ → Option A) → ℕ → Option A
itself_or itself inside zero = itself
itself_or itself inside (suc k) = inside k

-- names

abbrev pub with_shorter_name : {A : Type 0} → (A → List ℕ) → (A → List ℕ → A) → List (List ℕ) → A → Option A
with_shorter_name name rename names x = option_map (rename x) (shorter_name names (name x))

-- the k-th of what has a name and nothing inside, when these names are taken
abbrev pub renamed_at : {A : Type 0} → (A → List ℕ) → (A → List ℕ → A) → List (List ℕ) → ℕ → List A → Option (List A)
renamed_at name rename names k [] = None
renamed_at name rename names zero (x ∷ xs) = option_map (λ y. y ∷ xs) (with_shorter_name name rename names x)
renamed_at name rename names (suc k) (x ∷ xs) = option_map (λ ys. x ∷ ys) (renamed_at name rename names k xs)

-- the k-th of all that has a name in a scope
abbrev pub member_renamed : {A : Type 0} → (A → List ℕ) → (A → List ℕ → A) → ℕ → List A → Option (List A)
member_renamed name rename k xs = renamed_at name rename (map name xs) k xs

-- a field or a case
abbrev pub pair_renamed : {A : Type 0} → List ℕ × A → List ℕ → List ℕ × A
pair_renamed p name = (name, p.1)

abbrev pub label_renamed : List ℕ → List ℕ → List ℕ
label_renamed n name = name

abbrev pub fields_simplified : ℕ → List Field → Option (List Field)
fields_simplified k fs = member_renamed (λ f. f.0) pair_renamed k fs

abbrev pub cases_simplified : ℕ → List Case → Option (List Case)
cases_simplified k cs = member_renamed (λ c. c.0) pair_renamed k cs

abbrev pub labels_simplified : ℕ → List (List ℕ) → Option (List (List ℕ))
labels_simplified k ns = member_renamed (λ n. n) label_renamed k ns

-- types of values (Explainer.md, defvaltype)

abbrev pub is_bool : PrimitiveValType → Bool
is_bool prim.Bool = true
is_bool p = false

abbrev pub bool : DefValType
bool = primitive_type prim.Bool

abbrev pub simpler_value : DefValType → Option DefValType
simpler_value (primitive_type p) = if is_bool p then None else Some bool
simpler_value t = Some bool

abbrev pub shape_simplified : ℕ → Shape → Option DefValType
shape_simplified k (fields type fs) = option_map type (fields_simplified k fs)
shape_simplified k (cases type cs) = option_map type (cases_simplified k cs)
shape_simplified k (labels type ns) = option_map type (labels_simplified k ns)
shape_simplified k x = None

abbrev pub value_simplified : ℕ → DefValType → Option DefValType
value_simplified k t = shape_simplified k (shape t)

-- a parameter; a result has no name
abbrev pub signature_simplified : ℕ → Signature → Option Signature
signature_simplified k g = option_map (λ ps. record g { params = ps }) (fields_simplified k g.params)

-- types, and what they declare (Explainer.md, type definitions)

abbrev pub simpler_entry : Entry → Option Entry
simpler_entry (defined t) = option_map defined (simpler_value t)
simpler_entry e = None

-- a declaration, when these names are imported and these are exported
abbrev pub simpler_decl : List (List ℕ) → List (List ℕ) → Decl → Option Decl
simpler_decl is es (type_decl e) = option_map type_decl (simpler_entry e)
simpler_decl is es (import_decl name n r) = option_map (λ new. import_decl new n r) (shorter_name is name)
simpler_decl is es (export_decl name n r) = option_map (λ new. export_decl new n r) (shorter_name es name)
simpler_decl is es d = None

abbrev mutual
  pub entry_simplified : ℕ → Entry → Option Entry
  entry_simplified k (defined t) = option_map defined (value_simplified k t)
  entry_simplified k (function g) = option_map function (signature_simplified k g)
  entry_simplified k (component_type ds) = option_map component_type (decls_simplified (names (decl_imports ds)) (names (decl_exports ds)) k ds)
  entry_simplified k (instance_type ds) = option_map instance_type (decls_simplified (names (decl_imports ds)) (names (decl_exports ds)) k ds)

  pub decl_simplified : ℕ → Decl → Option Decl
  decl_simplified k (type_decl e) = option_map type_decl (entry_simplified k e)
  decl_simplified k d = None

  pub decls_simplified : List (List ℕ) → List (List ℕ) → ℕ → Decls → Option Decls
  decls_simplified is es k no_decls = None
  decls_simplified is es k (then_decls d ds) =
      if nat_lt k (decl_items d + 1) then option_map (λ e. then_decls e ds) (itself_or (simpler_decl is es d) (λ j. decl_simplified j d) k)
      else option_map (λ es2. then_decls d es2) (decls_simplified is es (k - (decl_items d + 1)) ds)

abbrev pub types_simplified : ℕ → List Entry → Option (List Entry)
types_simplified k [] = None
types_simplified k (e ∷ es) =
    if nat_lt k (entry_items e + 1) then option_map (λ f. f ∷ es) (itself_or (simpler_entry e) (λ j. entry_simplified j e) k)
    else option_map (λ fs. e ∷ fs) (types_simplified (k - (entry_items e + 1)) es)

-- sections

-- a custom section without contents
abbrev pub simpler_custom : List ℕ → List ℕ → Option Part
simpler_custom name [] = None
simpler_custom name (b ∷ bs) = Some (part.custom name [])

-- A core module becomes the empty one. A component in the place of the whole is not a section: see component_at.
abbrev pub simpler_part : Part → Option Part
simpler_part (part.custom name contents) = simpler_custom name contents
simpler_part (part.core_module text) = if bytes_eq text core_preamble then None else Some (part.core_module core_preamble)
simpler_part p = None

-- the sections of a component that imports and exports these names
abbrev mutual
  pub part_simplified : List (List ℕ) → List (List ℕ) → ℕ → Part → Option Part
  part_simplified is es k (part.component t) =
      option_map part.component (sections_simplified (import_names (imports_of t)) (export_names (exports_of t)) k t)
  part_simplified is es k (part.types ts) = option_map part.types (types_simplified k ts)
  part_simplified is es k (part.imports js) = option_map part.imports (renamed_at (λ i. i.name) import_renamed is k js)
  part_simplified is es k (part.exports fs) = option_map part.exports (renamed_at (λ e. e.name) export_renamed es k fs)
  part_simplified is es k p = None

  pub sections_simplified : List (List ℕ) → List (List ℕ) → ℕ → Tree → Option Tree
  sections_simplified is es k ends = None
  sections_simplified is es k (first p t) =
      if nat_lt k (part_items p + 1) then option_map (λ q. first q t) (itself_or (simpler_part p) (λ j. part_simplified is es j p) k)
      else option_map (λ u. first p u) (sections_simplified is es (k - (part_items p + 1)) t)

-- the component that is the k-th item, at any depth
abbrev mutual
  pub component_at : ℕ → Tree → Option Tree
  component_at k ends = None
  component_at k (first p t) = if nat_lt k (part_items p + 1) then component_in k p else component_at (k - (part_items p + 1)) t

  pub component_in : ℕ → Part → Option Tree
  component_in k (part.component t) = itself_or (Some t) (λ j. component_at j t) k
  component_in k p = None

abbrev pub sections_of : ℕ → Tree → Option Tree
sections_of k t = sections_simplified (import_names (imports_of t)) (export_names (exports_of t)) k t

-- The component with its k-th item made simpler: a component in it takes the place of the whole, and any other item is made simpler in its
-- place. There is none if there is no k-th item, or if it has no simpler form.
abbrev pub simplified : ℕ → Tree → Option Tree
simplified k t = elim (component_at k t) [ None ↦ sections_of k t | Some u ↦ Some u ]
