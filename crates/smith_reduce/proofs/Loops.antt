-- Loops that find whether all items of a list have a property.
use Rattle.std.proofs.Common.{◌≡◌, ℕ, ◌+◌, ◌<◌, ◌≤◌, List, [], ◌∷◌, map, length, get_or, refl, sym, ap, subst, arith}
use Rattle.std.proofs.lemmas.List.{length-map}
use Rattle.std.specs.List.{AllByRecursion, flat_map}
use Rattle.std.specs.Prelude.{String, string_bytes}
use Rattle.std.specs.declared.alloc.Global.{Global}
use Rattle.smith_format.specs.declared.config.Config.{Config}
use Rattle.smith_input.proofs.Lists.{all_both}
use Rattle.smith_syntax.specs.Entries.{decl_count, in_order}
use Rattle.smith_syntax.specs.Signature.{named}
use Rattle.smith_tree.specs.Readable.{IsFinishable}
use Rattle.smith_tree.specs.Tree.{tree_of}
use Rattle.smith_read.specs.PartNodes.{shown_part_node}
use Rattle.smith_read.specs.TypeNodes.{shown_decl_node}
use Rattle.smith_read.specs.declared.nodes.PartNode.{PartNode}
use Rattle.smith_read.specs.declared.type_nodes.DeclNode.{DeclNode}
use Rattle.smith_check.proofs.Judging.{AllLeft, left_at, left_done}
use Rattle.smith_check.proofs.TypeSteps.{names_named}
use Rattle.smith_edit.proofs.Joining.{parts_same}

module _ {A B : Type 0} (P : B → Type 0) (view : A → B) (xs : List A) (i : ℕ) where
  -- All have the property if those from that one on have it.
  abbrev pub IfRest : Type 0
  IfRest = AllLeft P view xs i → AllByRecursion P (map view xs)

  pub one_has : IfRest → (x : A) → i < length xs → x ≡ get_or xs i x → P (view x)
      → AllLeft P view xs (i + 1) → AllByRecursion P (map view xs)
  one_has rest x l e has more = rest ((left_at P view xs i x l e).from (has, more))

  pub all_have : IfRest → length xs ≤ i → AllByRecursion P (map view xs)
  all_have rest l = rest (left_done P view xs i l)

-- Items that each have a list of what has a property.
pub all_flat : {A B : Type 0} (P : B → Type 0) (f : A → List B) (xs : List A) → AllByRecursion (λ x. AllByRecursion P (f x)) xs
    → AllByRecursion P (flat_map f xs)
all_flat P f [] all = tt
all_flat P f (x ∷ xs) all = all_both P (f x) (flat_map f xs) all.0 (all_flat P f xs all.1)

-- the names of items, as the program and as the plain tree has them
pub all_named : {B : Type 0} (P : List ℕ → Type 0) (xs : List (String Global × B)) → AllByRecursion P (map (λ x. string_bytes x.0) xs)
    → AllByRecursion P (map (λ x. x.0) (map named xs))
all_named P xs all = subst (AllByRecursion P) (sym (names_named xs)) all

-- Declarations are as many as the nodes that show them.
decls_counted : (ds : List DeclNode) → decl_count (in_order (map shown_decl_node ds)) ≡ length ds
decls_counted [] = refl
decls_counted (d ∷ ds) = omega (arith, decls_counted ds)

pub few_decls : (ds : List DeclNode) → length ds ≤ 100 → decl_count (in_order (map shown_decl_node ds)) ≤ 100
few_decls ds few = omega (arith, decls_counted ds, few)

-- Sections are as many as the nodes that show them.
pub enough_parts : (config : Config) (ps : List PartNode) → config.finish_after ≤ length ps → IsFinishable config (tree_of (map shown_part_node ps))
enough_parts config ps enough = omega (arith, ap length (parts_same (map shown_part_node ps)), length-map ps shown_part_node, enough)
