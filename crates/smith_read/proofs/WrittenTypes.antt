-- How types that hold types are spelled, over the nodes that they hold.
use Rattle.std.proofs.Common.{◌≡◌, Bool, true, false, List, map, refl, ap, ◌∙◌}
use Rattle.std.specs.Global.{Vec}
use Rattle.smith_format.specs.Piece.{◌⊕◌, byte, u, many}
use Rattle.smith_format.proofs.Many.{many-map}
use Rattle.smith_syntax.specs.Entries.{decl_count, in_order}
use Rattle.smith_syntax.specs.Grammar.{decl, decls, entry}
use Rattle.smith_syntax.proofs.Declarations.{many_decls}
use Rattle.smith_read.specs.TypeNodes.{shown_decl_node, shown_type_node}
use Rattle.smith_read.specs.declared.type_nodes.DeclNode.{DeclNode}
use Rattle.smith_read.specs.declared.type_nodes.DeclNode.TheVariants as declared
use Rattle.smith_read.specs.declared.type_nodes.TypeNode.{TypeNode}
use Rattle.smith_read.specs.declared.type_nodes.TypeNode.TheVariants as node
use Rattle.smith_read.proofs.ShownNodes.{shown_component, shown_declared, shown_instance}

-- declarations in order are spelled as a list of them
many_of : (b : Bool) (ns : List DeclNode)
    → u (decl_count (in_order (map shown_decl_node ns))) ⊕ decls b (in_order (map shown_decl_node ns)) ≡ many (λ d. decl b (shown_decl_node d)) ns
many_of b ns = many_decls (decl b) (decls b) refl (λ d ds. refl) (map shown_decl_node ns) ∙ many-map (decl b) shown_decl_node ns

pub entry_component : (ds : Vec DeclNode) → entry (shown_type_node (node.Component ds)) ≡ byte 0x41 ⊕ many (λ d. decl true (shown_decl_node d)) ds.items
entry_component ds = ap entry (shown_component ds) ∙ ap (λ p. byte 0x41 ⊕ p) (many_of true ds.items)

pub entry_instance : (ds : Vec DeclNode) → entry (shown_type_node (node.Instance ds)) ≡ byte 0x42 ⊕ many (λ d. decl false (shown_decl_node d)) ds.items
entry_instance ds = ap entry (shown_instance ds) ∙ ap (λ p. byte 0x42 ⊕ p) (many_of false ds.items)

pub decl_type : (b : Bool) (t : TypeNode) → decl b (shown_decl_node (declared.Type t)) ≡ byte 0x01 ⊕ entry (shown_type_node t)
decl_type b t = ap (decl b) (shown_declared t)
