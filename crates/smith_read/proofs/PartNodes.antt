-- The trees of components that are read, variant by variant.
use Rattle.std.proofs.Common.{◌≡◌, ℕ, map, rules}
use Rattle.std.specs.Global.{Vec}
use Rattle.std.specs.Prelude.{string_bytes}
use Rattle.smith_read.specs.PartNodes.{shown_import_node, shown_part_node}
use Rattle.smith_tree.specs.Shown.{shown_canon, shown_export}
use Rattle.smith_tree.specs.declared.entries.CustomSection.{CustomSection}
use Rattle.smith_tree.specs.declared.entries.Func.{Func}
use Rattle.smith_tree.specs.declared.entries.Export.{Export}
use Rattle.smith_read.specs.declared.nodes.ImportNode.{ImportNode}
use Rattle.smith_read.specs.declared.nodes.PartNode.{PartNode}
use Rattle.smith_read.specs.declared.nodes.PartNode.TheFolds.{the_lemmas}
use Rattle.smith_read.specs.declared.nodes.PartNode.TheVariants as node
use Rattle.smith_read.specs.Nodes.{shown_core_node}
use Rattle.smith_read.specs.TypeNodes.{shown_type_node}
use Rattle.smith_read.specs.declared.core_types.CoreNode.{CoreNode}
use Rattle.smith_read.specs.declared.type_nodes.TypeNode.{TypeNode}
use Rattle.smith_tree.specs.Tree.{canons, component, core_module, core_types, custom, exports, imports, tree_of, types}

pub shown_custom : (s : CustomSection) → shown_part_node (node.Custom s) ≡ custom (string_bytes s.name) s.bytes.items
shown_custom s = search (rules, the_lemmas)

pub shown_module : (bs : Vec ℕ) → shown_part_node (node.CoreModule bs) ≡ core_module bs.items
shown_module bs = search (rules, the_lemmas)

pub shown_core_types : (ts : Vec CoreNode) → shown_part_node (node.CoreTypes ts) ≡ core_types (map shown_core_node ts.items)
shown_core_types ts = search (rules, the_lemmas)

pub shown_nested : (ps : Vec PartNode) → shown_part_node (node.Component ps) ≡ component (tree_of (map shown_part_node ps.items))
shown_nested ps = search (rules, the_lemmas)

pub shown_types : (ts : Vec TypeNode) → shown_part_node (node.Types ts) ≡ types (map shown_type_node ts.items)
shown_types ts = search (rules, the_lemmas)

pub shown_canons : (fs : Vec Func) → shown_part_node (node.Canons fs) ≡ canons (map shown_canon fs.items)
shown_canons fs = search (rules, the_lemmas)

pub shown_imports : (is : Vec ImportNode) → shown_part_node (node.Imports is) ≡ imports (map shown_import_node is.items)
shown_imports is = search (rules, the_lemmas)

pub shown_exports : (es : Vec Export) → shown_part_node (node.Exports es) ≡ exports (map shown_export es.items)
shown_exports es = search (rules, the_lemmas)
