-- How sections and components are spelled, over the nodes that they hold.
use Rattle.std.proofs.Common.{◌≡◌, ℕ, List, false, true, map, refl, ap, ◌∙◌, nat_eq, Some, None}
use Rattle.std.specs.Global.{Vec}
use Rattle.std.specs.List.{starts_with}
use Rattle.smith_core.specs.Preamble.{core_preamble}
use Rattle.smith_format.specs.Piece.{◌⊕◌, bytes, raw, each, many, sized}
use Rattle.smith_format.proofs.Many.{each-map, many-map}
use Rattle.smith_syntax.specs.Grammar.{core_entry, entry, import_entry}
use Rattle.smith_tree.specs.Grammar.{canon, component_text, embedded, export_entry, part, preamble}
use Rattle.smith_tree.specs.Tree.{tree_of}
use Rattle.smith_read.specs.Nodes.{shown_core_node}
use Rattle.smith_read.specs.TypeNodes.{shown_type_node}
use Rattle.smith_read.specs.declared.core_types.CoreNode.{CoreNode}
use Rattle.smith_read.specs.declared.nodes.ImportNode.{ImportNode}
use Rattle.smith_read.specs.declared.type_nodes.TypeNode.{TypeNode}
use Rattle.smith_read.specs.PartNodes.{shown_import_node, shown_part_node}
use Rattle.smith_tree.specs.Shown.{shown_canon, shown_export}
use Rattle.smith_tree.specs.declared.entries.Func.{Func}
use Rattle.smith_tree.specs.declared.entries.Export.{Export}
use Rattle.smith_read.specs.declared.nodes.PartNode.{PartNode}
use Rattle.smith_read.specs.declared.nodes.PartNode.TheVariants as node
use Rattle.smith_read.proofs.PartNodes.{shown_canons, shown_core_types, shown_exports, shown_imports, shown_nested, shown_types}
use Rattle.smith_tree.proofs.Parts.{parts_each}

pub part_core_types : (ts : Vec CoreNode) → part (shown_part_node (node.CoreTypes ts)) ≡ sized 3 (many (λ t. core_entry (shown_core_node t)) ts.items)
part_core_types ts = ap part (shown_core_types ts) ∙ ap (sized 3) (many-map core_entry shown_core_node ts.items)

pub part_component : (ns : Vec PartNode) → part (shown_part_node (node.Component ns)) ≡ sized 4 (component_text (tree_of (map shown_part_node ns.items)))
part_component ns = ap part (shown_nested ns)

pub part_types : (ts : Vec TypeNode) → part (shown_part_node (node.Types ts)) ≡ sized 7 (many (λ t. entry (shown_type_node t)) ts.items)
part_types ts = ap part (shown_types ts) ∙ ap (sized 7) (many-map entry shown_type_node ts.items)

pub part_canons : (fs : Vec Func) → part (shown_part_node (node.Canons fs)) ≡ sized 8 (many (λ f. canon (shown_canon f)) fs.items)
part_canons fs = ap part (shown_canons fs) ∙ ap (sized 8) (many-map canon shown_canon fs.items)

pub part_imports : (is : Vec ImportNode) → part (shown_part_node (node.Imports is)) ≡ sized 10 (many (λ i. import_entry (shown_import_node i)) is.items)
part_imports is = ap part (shown_imports is) ∙ ap (sized 10) (many-map import_entry shown_import_node is.items)

pub part_exports : (es : Vec Export) → part (shown_part_node (node.Exports es)) ≡ sized 11 (many (λ e. export_entry (shown_export e)) es.items)
part_exports es = ap part (shown_exports es) ∙ ap (sized 11) (many-map export_entry shown_export es.items)

pub text_shown : (ns : List PartNode) → component_text (tree_of (map shown_part_node ns)) ≡ bytes preamble ⊕ each (λ n. part (shown_part_node n)) ns
text_shown ns = ap (λ p. bytes preamble ⊕ p) (parts_each (map shown_part_node ns) ∙ each-map part shown_part_node ns)

-- core modules

pub embedded_is : (bs : List ℕ) → starts_with nat_eq bs core_preamble ≡ true → raw bs ≡ Some bs → embedded bs ≡ Some bs
unfolding embedded
embedded_is bs begins e = rw begins e

pub embedded_none : (bs : List ℕ) → starts_with nat_eq bs core_preamble ≡ false → embedded bs ≡ None
unfolding embedded
embedded_none bs begins = rw begins refl
