-- Entries, declarations and sections in rows.
use Rattle.std.proofs.Common.{◌≡◌, ℕ, Bool, Option, Some, None, ap, refl, List, [], ◌∷◌}
use Rattle.std.specs.Option.{option_map}
use Rattle.smith_syntax.specs.Entries.{Decl, Decls, in_order, then_decls}
use Rattle.smith_tree.specs.Tree.{Part, Tree, first, parts_of, tree_of}
use Rattle.smith_read.specs.PartNodes.{shown_part_node}
use Rattle.smith_read.specs.TypeNodes.{shown_decl_node}
use Rattle.smith_read.specs.declared.nodes.PartNode.{PartNode}
use Rattle.smith_read.specs.declared.type_nodes.DeclNode.{DeclNode}
use Rattle.smith_change.specs.Parts.{part_changed, part_places, places, sections_changed}
use Rattle.smith_change.specs.Rows.{entry_alternative, row_changed, row_places, unnamed}
use Rattle.smith_change.specs.Types.{decl_again, decl_changed, decl_list, decl_places, decls_changed, decls_places}
use Rattle.smith_change.proofs.InRow.{InRow}

pub same_option : {A : Type 0} (o : Option A) → o ≡ option_map (λ x. x) o
same_option None = refl
same_option (Some x) = refl

pub decl_list_back : (ds : List Decl) → decl_list (in_order ds) ≡ ds
decl_list_back [] = refl
decl_list_back (d ∷ ds) = ap (λ es. d ∷ es) (decl_list_back ds)

pub parts_back : (ps : List Part) → parts_of (tree_of ps) ≡ ps
parts_back [] = refl
parts_back (p ∷ ps) = ap (λ qs. p ∷ qs) (parts_back ps)

module _ {X A : Type 0} (shown : X → A) (size : A → ℕ) (changed : ℕ → ℕ → A → Option A) (again : A → Option A) (a : ℕ) where
  abbrev pub list_row : InRow X A (List A)
  list_row = record {
    shown = shown;
    gather = λ xs. xs;
    cons = λ x xs. x ∷ xs;
    size = size;
    sizes = row_places size;
    changed = changed a;
    edited = entry_alternative again a;
    own = λ x xs. entry_alternative again a (x ∷ xs);
    all = row_changed size changed again a;
    first = λ x xs. refl;
    none = refl;
    sum = λ x xs. refl;
    own_is = λ x xs. same_option (entry_alternative again a (x ∷ xs));
    turn = λ x xs. refl;
  }

abbrev pub decl_row : Bool → ℕ → InRow DeclNode Decl Decls
decl_row importing a = record {
  shown = shown_decl_node;
  gather = in_order;
  cons = then_decls;
  size = decl_places;
  sizes = decls_places;
  changed = decl_changed importing a;
  edited = entry_alternative decl_again a;
  own = λ d ds. option_map in_order (entry_alternative decl_again a (d ∷ decl_list ds));
  all = decls_changed importing a;
  first = λ d ds. refl;
  none = refl;
  sum = λ d ds. refl;
  own_is = λ d ds. ap (λ es. option_map in_order (entry_alternative decl_again a (d ∷ es))) (decl_list_back ds);
  turn = λ d ds. refl;
}

abbrev pub part_row : ℕ → InRow PartNode Part Tree
part_row a = record {
  shown = shown_part_node;
  gather = tree_of;
  cons = first;
  size = part_places;
  sizes = places;
  changed = part_changed a;
  edited = entry_alternative unnamed a;
  own = λ p t. option_map tree_of (entry_alternative unnamed a (p ∷ parts_of t));
  all = sections_changed a;
  first = λ p ps. refl;
  none = refl;
  sum = λ p t. refl;
  own_is = λ p ps. ap (λ qs. option_map tree_of (entry_alternative unnamed a (p ∷ qs))) (parts_back ps);
  turn = λ p t. refl;
}
