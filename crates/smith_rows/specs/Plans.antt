-- Plans, as plain trees: the scripts of them are inputs of tests.
use Rattle.std.specs.Prelude.{ℕ, true, false, List, [], ◌∷◌, codes, None, Some}
use Rattle.smith_format.specs.declared.config.Config.{Config}
use Rattle.smith_syntax.specs.Entries.{Entry, defined, function, component_type, primitive_type}
use Rattle.smith_syntax.specs.Entries.{type_alias, import_decl, export_decl, then_decls, no_decls, ImportEntry}
use Rattle.smith_syntax.specs.declared.deftype.ComponentTypeRef.TheVariants as to
use Rattle.smith_syntax.specs.declared.types.ComponentValType.TheVariants.{Primitive}
use Rattle.smith_syntax.specs.declared.types.PrimitiveValType.TheVariants as prim
use Rattle.smith_tree.specs.Tree.{Tree, ends, first, component, types, canons, imports, exports, lift, lower}

-- one module, one component and one instance, a depth of 2, 10 of everything else, and what the default limits say
abbrev pub small_limits : Config
small_limits = record {
  min_types = 0;
  min_imports = 0;
  min_funcs = 0;
  min_memories = 0;
  max_types = 10;
  max_imports = 10;
  max_funcs = 10;
  max_exports = 0;
  max_globals = 100;
  max_tables = 100;
  max_tags = 100;
  multi_value_enabled = true;
  exceptions_enabled = true;
  reference_types_enabled = true;
  simd_enabled = true;
  allow_floats = true;
  bulk_memory_enabled = true;
  max_memories = 1;
  max_modules = 1;
  max_components = 1;
  max_instances = 1;
  max_nesting_depth = 2;
  max_type_size = 10;
  finish_after = 0;
  must_validate = false;
  max_name_length = 100;
  loop_bits = 1;
}

-- the same, and 10 exports
abbrev pub limits_with_exports : Config
limits_with_exports = record small_limits { max_exports = 10 }

abbrev import_of_type : List ℕ → ℕ → ImportEntry
import_of_type name t = record { name = name; to = to.Func t }

-- () to string
abbrev to_string : Entry
to_string = function (record { params = []; result = Some (Primitive prim.String) })

-- (a: u32) to bool
abbrev u32_to_bool : Entry
u32_to_bool = function (record { params = (codes "a", Primitive prim.U32) ∷ []; result = Some (Primitive prim.Bool) })

-- () to nothing
abbrev to_nothing : Entry
to_nothing = function (record { params = []; result = None })

abbrev pub second_of_equal_types : Tree
second_of_equal_types = first (types (to_string ∷ to_string ∷ [])) (first (imports (import_of_type (codes "a") 1 ∷ [])) ends)

abbrev pub lower_and_lift : Tree
lower_and_lift = first (types (u32_to_bool ∷ [])) (first (imports (import_of_type (codes "b") 0 ∷ [])) (first (canons (lower 0 ∷ lift 0 0 ∷ [])) ends))

abbrev pub lower_of_a_lift : Tree
lower_of_a_lift = first (types (u32_to_bool ∷ [])) (first (imports (import_of_type (codes "b") 0 ∷ []))
    (first (canons (lower 0 ∷ lift 0 0 ∷ lower 1 ∷ [])) ends))

-- a lower of an export
abbrev pub lower_of_an_export : Tree
lower_of_an_export =
    first (types (u32_to_bool ∷ [])) (first (imports (import_of_type (codes "b") 0 ∷ []))
    (first (exports (record { name = codes "c"; func = 0 } ∷ [])) (first (canons (lower 1 ∷ [])) ends)))

-- a component type that imports a function, exports a type and has outer aliases
abbrev scoping_type : Entry
scoping_type =
    component_type
    (then_decls (type_alias 1 0 tt) (then_decls (type_alias 1 1 tt)
    (then_decls (import_decl (codes "d") tt (to.Func 0))
    (then_decls (export_decl (codes "e0") tt (to.TypeEq 1)) (then_decls (type_alias 0 2 tt) no_decls)))))

abbrev pub scoped_type : Tree
scoped_type = first (types (to_nothing ∷ defined (primitive_type prim.U32) ∷ scoping_type ∷ [])) ends

-- a component in one, after a type section
abbrev pub nested : Tree
nested = first (types (u32_to_bool ∷ [])) (first (component lower_and_lift) (first (imports (import_of_type (codes "c") 0 ∷ [])) ends))
