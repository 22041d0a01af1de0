-- The trees of types that are read, variant by variant.
use Rattle.std.proofs.Common.{◌≡◌, ℕ, map, rules}
use Rattle.std.specs.Global.{Vec}
use Rattle.std.specs.declared.alloc.Global.{Global}
use Rattle.std.specs.Prelude.{String, string_bytes}
use Rattle.smith_syntax.specs.Entries.{component_type, core_type_alias, core_type_decl, defined, export_decl, function, import_decl, in_order, instance_type}
use Rattle.smith_syntax.specs.Entries.{type_alias, type_decl}
use Rattle.smith_syntax.specs.Shown.{shown_defined}
use Rattle.smith_syntax.specs.declared.deftype.ComponentTypeRef.{ComponentTypeRef}
use Rattle.smith_syntax.specs.declared.func.FuncType.{FuncType}
use Rattle.smith_syntax.specs.declared.types.DefinedType.{DefinedType}
use Rattle.smith_read.specs.Nodes.{shown_core_node}
use Rattle.smith_read.specs.TypeNodes.{shown_decl_node, shown_type_node}
use Rattle.smith_read.specs.declared.core_types.CoreNode.{CoreNode}
use Rattle.smith_read.specs.declared.type_nodes.DeclNode.{DeclNode}
use Rattle.smith_read.specs.declared.type_nodes.DeclNode.TheFolds.{the_lemmas}
use Rattle.smith_read.specs.declared.type_nodes.DeclNode.TheVariants as declared
use Rattle.smith_read.specs.declared.type_nodes.TypeNode.{TypeNode}
use Rattle.smith_read.specs.declared.type_nodes.TypeNode.TheVariants as node

pub shown_values : (t : DefinedType) → shown_type_node (node.Defined t) ≡ defined (shown_defined t)
shown_values t = search (rules, the_lemmas)

pub shown_function : (f : FuncType) → shown_type_node (node.Func f) ≡ function f
shown_function f = search (rules, the_lemmas)

pub shown_component : (ds : Vec DeclNode) → shown_type_node (node.Component ds) ≡ component_type (in_order (map shown_decl_node ds.items))
shown_component ds = search (rules, the_lemmas)

pub shown_instance : (ds : Vec DeclNode) → shown_type_node (node.Instance ds) ≡ instance_type (in_order (map shown_decl_node ds.items))
shown_instance ds = search (rules, the_lemmas)

pub shown_core : (t : CoreNode) → shown_decl_node (declared.Core t) ≡ core_type_decl (shown_core_node t) tt
shown_core t = search (rules, the_lemmas)

pub shown_declared : (t : TypeNode) → shown_decl_node (declared.«Type» t) ≡ type_decl (shown_type_node t)
shown_declared t = search (rules, the_lemmas)

pub shown_alias : (count i : ℕ) → shown_decl_node (declared.TypeAlias count i) ≡ type_alias count i tt
shown_alias count i = search (rules, the_lemmas)

pub shown_core_alias : (count i : ℕ) → shown_decl_node (declared.CoreTypeAlias count i) ≡ core_type_alias count i tt
shown_core_alias count i = search (rules, the_lemmas)

pub shown_import : (name : String Global) (r : ComponentTypeRef) → shown_decl_node (declared.Import name r) ≡ import_decl (string_bytes name) tt r
shown_import name r = search (rules, the_lemmas)

pub shown_export : (name : String Global) (r : ComponentTypeRef) → shown_decl_node (declared.Export name r) ≡ export_decl (string_bytes name) tt r
shown_export name r = search (rules, the_lemmas)

pub ruleset shown_nodes = (
  shown_values,
  shown_function,
  shown_component,
  shown_instance,
  shown_core,
  shown_declared,
  shown_alias,
  shown_core_alias,
  shown_import,
  shown_export,
)
