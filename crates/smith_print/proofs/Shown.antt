-- The text of types that hold types, over the nodes that they hold.
use Rattle.std.proofs.Common.{◌≡◌, ℕ, List, [], ◌∷◌, ◌++◌, map, refl, ap, ◌∙◌}
use Rattle.std.specs.Prelude.{codes}
use Rattle.std.specs.Global.{Vec}
use Rattle.smith_print.specs.declared.spaces.IndexSpaces.{IndexSpaces}
use Rattle.smith_print.specs.Lines.{lines}
use Rattle.smith_print.specs.Spaces.{nothing}
use Rattle.smith_print.specs.CoreTypes.{after_module_decl, module_decl_line}
use Rattle.smith_print.specs.Types.{after_decl, core_entry_text, decl_lines, decl_text, entry_text, nested}
use Rattle.smith_print.specs.Words.{deeper, line}
use Rattle.smith_print.proofs.Listed.{entry_lines-map}
use Rattle.smith_read.specs.Nodes.{shown_module_node}
use Rattle.smith_read.specs.declared.core_types.ModuleNode.{ModuleNode}
use Rattle.smith_read.proofs.ShownNodes.{shown_component, shown_instance}
use Rattle.smith_read.specs.TypeNodes.{shown_decl_node, shown_type_node}
use Rattle.smith_read.specs.declared.type_nodes.DeclNode.{DeclNode}
use Rattle.smith_read.specs.declared.type_nodes.TypeNode.TheVariants as node
use Rattle.smith_syntax.specs.Entries.{core_module, in_order}

-- declarations in order, as lines
pub decl_lines_are : (ds : List DeclNode) (c : ℕ) (s : IndexSpaces)
    → decl_lines (in_order (map shown_decl_node ds)) c s ≡ lines (λ d. decl_text (shown_decl_node d)) (λ d. after_decl (shown_decl_node d)) c s ds
decl_lines_are [] c s = refl
decl_lines_are (d ∷ ds) c s = ap (λ q. line c ++ (decl_text (shown_decl_node d) c s ++ q)) (decl_lines_are ds c (after_decl (shown_decl_node d) s))

abbrev pub held : List DeclNode → ℕ → List ℕ
held ds c = lines (λ d. decl_text (shown_decl_node d)) (λ d. after_decl (shown_decl_node d)) c nothing ds

nested_is : (word : List ℕ) (ds : List DeclNode) (c : ℕ)
    → nested word (λ n. decl_lines (in_order (map shown_decl_node ds)) n nothing) c ≡ nested word (held ds) c
nested_is word ds c = rw (decl_lines_are ds (deeper (deeper c)) nothing) refl

pub text_component : (ds : Vec DeclNode) (c : ℕ) → entry_text (shown_type_node (node.Component ds)) c ≡ nested (codes "(component") (held ds.items) c
text_component ds c = ap (λ e. entry_text e c) (shown_component ds) ∙ nested_is (codes "(component") ds.items c

pub text_instance : (ds : Vec DeclNode) (c : ℕ) → entry_text (shown_type_node (node.Instance ds)) c ≡ nested (codes "(instance") (held ds.items) c
text_instance ds c = ap (λ e. entry_text e c) (shown_instance ds) ∙ nested_is (codes "(instance") ds.items c

-- the declarations of a module type
pub text_module_type : (ds : List ModuleNode) (c : ℕ)
    → nested (codes "(module") (λ n. lines (λ d _. module_decl_line (shown_module_node d)) (λ d. after_module_decl (shown_module_node d)) n nothing ds) c
    ≡ core_entry_text (core_module (map shown_module_node ds)) c
text_module_type ds c = rw (entry_lines-map (λ d _. module_decl_line d) after_module_decl shown_module_node (deeper (deeper c)) nothing [] ds) refl
