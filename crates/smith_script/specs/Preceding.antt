-- What a script needs to know of what there is before a place, and how it grows.
use Rattle.std.specs.Prelude.{◌≡◌, ℕ, Bool, ◌+◌, ◌<◌, List, [], ◌∷◌, ◌++◌, fold, map, length, slice_get, if◌then◌else◌}
use Rattle.std.specs.List.{AllByRecursion}
use Rattle.std.specs.Option.{option_to_list}
use Rattle.smith_syntax.specs.Entries.{Entry, CoreEntry, ImportEntry}
use Rattle.smith_syntax.specs.Marked.{Marked, empty_marked}
use Rattle.smith_syntax.specs.declared.deftype.ComponentTypeRef.{ComponentTypeRef}
use Rattle.smith_tree.specs.declared.totals.RefTotals.{RefTotals}
use Rattle.smith_format.specs.declared.config.Config.{Config}
use Rattle.smith_read.specs.TypeNodes.{shown_type_node}
use Rattle.smith_tree.specs.Offers.{is_scalar_type, scalar_functions, totals_of}
use Rattle.smith_tree.specs.Marking.{exported_reference, marked_in, marked_inner, with_core_entry, with_exports_entry, with_import_entry, with_type_entry}
use Rattle.smith_tree.specs.Spaces.{Spaces, spaces_of}
use Rattle.smith_tree.specs.Tree.{Canon, ExportEntry, lift, lower, Tree, Part, custom, core_module, core_types, component, types, canons}
use Rattle.smith_tree.specs.Tree.{imports, exports, exports_of, imports_of, function_of, module_of, component_of, instance_of}
use Rattle.smith_script.specs.declared.preceding.Open.{Open}

-- In one open component: its scope, its types, its component functions by the indexes of their types, the ones of them whose type
-- flattened when they were added, its core functions by what they lower, how many imports and exports it has, and how many functions; and
-- how many modules, components and instances there are in the whole tree.
pub record Preceding : Type 0 where
  pub scope : Marked
  pub types : List Entry
  pub functions : List ℕ
  pub scalars : List ℕ
  pub core_functions : List ℕ
  pub imports : ℕ
  pub exports : ℕ
  pub totals : RefTotals

-- in an open component of that scope
abbrev pub preceding : Marked → Open → Preceding
preceding own o = record {
  scope = own;
  types = map shown_type_node o.types;
  functions = o.functions.0;
  scalars = o.functions.1;
  core_functions = o.core_functions.items;
  imports = o.imports;
  exports = o.exports;
  totals = o.totals;
}

-- its index spaces
abbrev pub spaces_in : Preceding → Spaces
spaces_in s = record { types = s.types; core_types = s.scope.core_types; functions = s.functions; core_functions = s.core_functions }

-- one more function
abbrev pub with_function : RefTotals → RefTotals
with_function t = record { modules = t.modules; funcs = t.funcs + 1; components = t.components; instances = t.instances }

-- what is counted when that is imported
abbrev pub with_import : RefTotals → ComponentTypeRef → RefTotals
with_import t r = record {
  modules = t.modules + length (module_of r);
  funcs = t.funcs + length (function_of r);
  components = t.components + length (component_of r);
  instances = t.instances + length (instance_of r);
}

-- more component functions, of the types with these indexes
abbrev pub with_function_of : Preceding → ℕ → Preceding
with_function_of s ty = record s {
  functions = s.functions ++ ty ∷ [];
  scalars = s.scalars ++ (if is_scalar_type s.types ty then length s.functions ∷ [] else []);
}

abbrev pub with_functions : Preceding → List ℕ → Preceding
with_functions s tys = fold with_function_of s tys

-- after an entry of a section

abbrev pub after_core_type : List Marked → Preceding → CoreEntry → Preceding
after_core_type outer s x = record s { scope = with_core_entry s.scope x }

abbrev pub after_type : List Marked → Preceding → Entry → Preceding
after_type outer s e = record s { scope = with_type_entry outer s.scope e; types = s.types ++ e ∷ [] }

abbrev pub after_canon : List Marked → Preceding → Canon → Preceding
after_canon outer s (lift c t) = record (with_function_of s t) { totals = with_function s.totals }
after_canon outer s (lower f) = record s { core_functions = s.core_functions ++ f ∷ []; totals = with_function s.totals }

abbrev pub after_import : List Marked → Preceding → ImportEntry → Preceding
after_import outer s x = record (with_functions s (function_of x.to)) {
  scope = with_import_entry s.scope x;
  imports = s.imports + 1;
  totals = with_import s.totals x.to;
}

abbrev pub after_export : List Marked → Preceding → ExportEntry → Preceding
after_export outer s x = record (with_functions s (option_to_list (slice_get s.functions x.func))) {
  scope = with_exports_entry s.scope (exported_reference s.functions x);
  exports = s.exports + 1;
}

-- after a core module
abbrev pub after_module : Preceding → Preceding
after_module s = record s {
  totals = record { modules = s.totals.modules + 1; funcs = s.totals.funcs; components = s.totals.components; instances = s.totals.instances };
}

-- in an empty component of a tree with these totals, whether marks are kept or not
abbrev pub empty_in : Bool → RefTotals → Preceding
empty_in keeps t = record { scope = empty_marked keeps; types = []; functions = []; scalars = []; core_functions = []; imports = 0; exports = 0; totals = t }

-- the totals when a component is opened
abbrev pub opened : RefTotals → RefTotals
opened t = record { modules = t.modules; funcs = 0; components = t.components + 1; instances = t.instances }

-- after a section in the scopes around the component. A component in it is none.
abbrev pub after_section : List Marked → Part → Preceding → Preceding
after_section outer (custom name contents) s = s
after_section outer (core_module text) s = after_module s
after_section outer (core_types ts) s = fold (after_core_type outer) s ts
after_section outer (component t) s = s
after_section outer (types ts) s = fold (after_type outer) s ts
after_section outer (canons fs) s = fold (after_canon outer) s fs
after_section outer (imports is) s = fold (after_import outer) s is
after_section outer (exports es) s = fold (after_export outer) s es

-- what there is when this scope and these spaces are there, that many imports and exports, and these totals
abbrev pub stands : Marked → Spaces → ℕ → ℕ → RefTotals → Preceding
stands own sp i e t = record {
  scope = own;
  types = sp.types;
  functions = sp.functions;
  scalars = scalar_functions sp;
  core_functions = sp.core_functions;
  imports = i;
  exports = e;
  totals = t;
}

-- the totals, and what there is, in the inner component of the open ones
abbrev pub totals_in : List Tree → Tree → RefTotals
totals_in outer t = totals_of (record { outer = outer; inner = t })

abbrev pub standing_at : Config → List Tree → Tree → Preceding
standing_at config outer t = stands (marked_inner config outer t) (spaces_of t) (length (imports_of t)) (length (exports_of t)) (totals_in outer t)

-- The types of all component functions are there.
abbrev pub Known : Spaces → Type 0
Known sp = AllByRecursion (λ ty. ty < length sp.types) sp.functions

-- When these components are open, the inner one after these parts, there are these scopes around, and this before.
pub record IsAfter (config : Config) (outer : List Tree) (before : Tree) (around : List Marked) (s : Preceding) : Type 0 where
  pub scopes : around ≡ marked_in config outer
  pub here : s ≡ standing_at config outer before
  pub known : Known (spaces_of before)
