-- What a type that is read shows.
use Rattle.std.specs.Prelude.{string_bytes}
use Rattle.smith_syntax.specs.Entries.{Entry, defined, function, component_type, instance_type, Decl, core_type_decl, type_decl, type_alias, core_type_alias}
use Rattle.smith_syntax.specs.Entries.{import_decl, export_decl, in_order}
use Rattle.smith_syntax.specs.Shown.{shown_defined}
use Rattle.smith_read.specs.Nodes.{shown_core_node}
use Rattle.smith_read.specs.declared.type_nodes.TypeNode.{TypeNode}
use Rattle.smith_read.specs.declared.type_nodes.DeclNode.{DeclNode}
use Rattle.smith_read.specs.declared.type_nodes.DeclNode.TheOpen as layer
use Rattle.smith_read.specs.declared.type_nodes.DeclNode.TheOpen.{DeclNode-F, TypeNode-F}
use Rattle.smith_read.specs.declared.type_nodes.DeclNode.TheFolds.{fold-TypeNode, fold-DeclNode}

abbrev pub decl_step : DeclNode-F Decl Entry → Decl
decl_step (layer.Core t) = core_type_decl (shown_core_node t) tt
decl_step (layer.Type t) = type_decl t
decl_step (layer.TypeAlias count i) = type_alias count i tt
decl_step (layer.CoreTypeAlias count i) = core_type_alias count i tt
decl_step (layer.Import name r) = import_decl (string_bytes name) tt r
decl_step (layer.Export name r) = export_decl (string_bytes name) tt r

abbrev pub type_step : TypeNode-F Decl Entry → Entry
type_step (layer.Defined t) = defined (shown_defined t)
type_step (layer.Func f) = function f
type_step (layer.Component ds) = component_type (in_order ds.items)
type_step (layer.Instance ds) = instance_type (in_order ds.items)

abbrev pub shown_type_node : TypeNode → Entry
shown_type_node = fold-TypeNode Decl Entry decl_step type_step

abbrev pub shown_decl_node : DeclNode → Decl
shown_decl_node = fold-DeclNode Decl Entry decl_step type_step
