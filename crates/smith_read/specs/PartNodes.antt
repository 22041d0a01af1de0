-- What a component that is read shows.
use Rattle.std.specs.Prelude.{ℕ, List, map, string_bytes}
use Rattle.smith_tree.specs.Shown.{shown_canon, shown_export}
use Rattle.smith_tree.specs.Tree.{Part, Tree, custom, core_module, core_types, component, types, canons, imports, exports}
use Rattle.smith_tree.specs.Tree.{tree_of}
use Rattle.smith_syntax.specs.Entries.{ImportEntry}
use Rattle.smith_read.specs.Nodes.{shown_core_node}
use Rattle.smith_read.specs.TypeNodes.{shown_type_node}
use Rattle.smith_read.specs.declared.nodes.ComponentTree.{ComponentTree}
use Rattle.smith_read.specs.declared.nodes.ImportNode.{ImportNode}
use Rattle.smith_syntax.specs.declared.deftype.ComponentTypeRef.{ComponentTypeRef}
use Rattle.smith_read.specs.declared.nodes.PartNode.{PartNode}
use Rattle.smith_read.specs.declared.nodes.PartNode.TheOpen as layer
use Rattle.smith_read.specs.declared.nodes.PartNode.TheOpen.{PartNode-F}
use Rattle.smith_read.specs.declared.nodes.PartNode.TheFolds.{fold-PartNode}

abbrev pub import_of : List ℕ × ComponentTypeRef → ImportEntry
import_of x = record { name = x.0; to = x.1 }

abbrev pub shown_import_node : ImportNode → ImportEntry
shown_import_node i = import_of (string_bytes i.name, i.to)

abbrev pub part_step : PartNode-F Part → Part
part_step (layer.Custom s) = custom (string_bytes s.name) s.bytes.items
part_step (layer.CoreModule bs) = core_module bs.items
part_step (layer.CoreTypes ts) = core_types (map shown_core_node ts.items)
part_step (layer.Component ps) = component (tree_of ps.items)
part_step (layer.Types ts) = types (map shown_type_node ts.items)
part_step (layer.Canons fs) = canons (map shown_canon fs.items)
part_step (layer.Imports is) = imports (map shown_import_node is.items)
part_step (layer.Exports es) = exports (map shown_export es.items)

abbrev pub shown_part_node : PartNode → Part
shown_part_node = fold-PartNode Part part_step

abbrev pub shown_tree : ComponentTree → Tree
shown_tree t = tree_of (map shown_part_node t.parts.items)
