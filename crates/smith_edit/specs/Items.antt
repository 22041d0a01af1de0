-- The items of a component, in the order of its bytes: each section, each entry of a section, each declaration of a type, and each member of
-- a type of values, of functions and of core functions (Explainer.md, type definitions). Here is how many are inside each.
use Rattle.std.specs.Prelude.{ℕ, ◌+◌, List, [], ◌∷◌, length}
use Rattle.std.specs.Option.{option_to_list}
use Rattle.smith_format.specs.CoreTypes.{Function}
use Rattle.smith_syntax.specs.Entries.{CoreEntry, core_func, core_module, Decl, Decls, DefValType, Entry, ModuleDecl, Signature}
use Rattle.smith_syntax.specs.Entries.{declares, defined, function, component_type, instance_type}
use Rattle.smith_syntax.specs.Entries.{core_type_decl, type_decl, no_decls, then_decls}
use Rattle.smith_tree.specs.Tree.{Tree, Part, ends, first}
use Rattle.smith_tree.specs.Tree as part
use Rattle.smith_edit.specs.Shapes.{Shape, cases, fields, labels, pair, shape, values}

-- entries, each with what is inside it
abbrev pub row_items : {A : Type 0} → (A → ℕ) → List A → ℕ
row_items inside [] = 0
row_items inside (x ∷ xs) = inside x + 1 + row_items inside xs

abbrev pub none_inside : {A : Type 0} → A → ℕ
none_inside x = 0

abbrev pub shape_items : Shape → ℕ
shape_items (fields type fs) = length fs
shape_items (cases type cs) = length cs
shape_items (values type vs) = length vs
shape_items (labels type ns) = length ns
shape_items (pair type ok err) = length (option_to_list ok) + length (option_to_list err)
shape_items x = 0

abbrev pub value_items : DefValType → ℕ
value_items t = shape_items (shape t)

abbrev pub signature_items : Signature → ℕ
signature_items s = length s.params + length (option_to_list s.result)

-- the members of a type that are the parameters and the result of a function
abbrev pub function_members : Entry → ℕ
function_members (function s) = signature_items s
function_members e = 0

abbrev pub function_items : Function → ℕ
function_items f = length f.0 + length f.1

abbrev pub module_decl_items : ModuleDecl → ℕ
module_decl_items (declares f) = function_items f
module_decl_items d = 0

abbrev pub core_items : CoreEntry → ℕ
core_items (core_func f) = function_items f
core_items (core_module ds) = row_items module_decl_items ds

abbrev mutual
  pub entry_items : Entry → ℕ
  entry_items (defined t) = value_items t
  entry_items (function s) = signature_items s
  entry_items (component_type ds) = decls_items ds
  entry_items (instance_type ds) = decls_items ds

  pub decl_items : Decl → ℕ
  decl_items (core_type_decl t k) = core_items t
  decl_items (type_decl e) = entry_items e
  decl_items d = 0

  pub decls_items : Decls → ℕ
  decls_items no_decls = 0
  decls_items (then_decls d ds) = decl_items d + 1 + decls_items ds

abbrev mutual
  pub part_items : Part → ℕ
  part_items (part.core_types ts) = row_items core_items ts
  part_items (part.component t) = tree_items t
  part_items (part.types ts) = row_items entry_items ts
  part_items (part.canons fs) = length fs
  part_items (part.imports is) = length is
  part_items (part.exports es) = length es
  part_items p = 0

  pub tree_items : Tree → ℕ
  tree_items ends = 0
  tree_items (first p t) = part_items p + 1 + tree_items t
