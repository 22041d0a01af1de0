-- The parts of a component one by one.
use Rattle.std.proofs.Common.{◌≡◌, ℕ, ◌+◌, ◌<◌, List, [], ◌∷◌, ◌++◌, length, map, get_or, take, refl, sym, ap, ◌∙◌}
use Rattle.std.proofs.Math.ListN.{drop}
use Rattle.std.proofs.lemmas.List.{map_more}
use Rattle.smith_input.proofs.Rests.{rest_at}
use Rattle.smith_read.specs.PartNodes.{shown_part_node}
use Rattle.smith_read.specs.declared.nodes.PartNode.{PartNode}
use Rattle.smith_syntax.specs.Scope.{Scope}
use Rattle.smith_tree.specs.Tree.{Part, Tree, add, first, tree_of}
use Rattle.smith_tree.specs.WellFormed.{Formed, FormedPart}
use Rattle.smith_check.proofs.Judging.{Same, same_by}

add_tree : (ps : List Part) (p : Part) → add (tree_of ps) p ≡ tree_of (ps ++ p ∷ [])
add_tree [] p = refl
add_tree (q ∷ ps) p = ap (first q) (add_tree ps p)

abbrev pub tree_from : ℕ → List PartNode → Tree
tree_from i ps = tree_of (map shown_part_node (drop i ps))

abbrev pub tree_upto : ℕ → List PartNode → Tree
tree_upto i ps = tree_of (map shown_part_node (take i ps))

module _ (ps : List PartNode) (i : ℕ) (p : PartNode) (h : i < length ps) (e : p ≡ get_or ps i p) where
  pub upto_more : add (tree_upto i ps) (shown_part_node p) ≡ tree_upto (i + 1) ps
  upto_more = add_tree (map shown_part_node (take i ps)) (shown_part_node p)
      ∙ ap tree_of (sym (map_more shown_part_node ps i p h ∙ ap (λ y. map shown_part_node (take i ps) ++ shown_part_node y ∷ []) (sym e)))

  pub parts_at : (outer : List Scope) → Same (Formed (tree_from i ps) outer (tree_upto i ps))
      (FormedPart (shown_part_node p) outer (tree_upto i ps) × Formed (tree_from (i + 1) ps) outer (tree_upto (i + 1) ps))
  parts_at outer =
      let here = same_by (λ ys. Formed (tree_of (map shown_part_node ys)) outer (tree_upto i ps)) (drop i ps) (p ∷ drop (i + 1) ps) (rest_at ps i p h e) in
      let next = same_by (Formed (tree_from (i + 1) ps) outer) (add (tree_upto i ps) (shown_part_node p)) (tree_upto (i + 1) ps) upto_more in
      record { to = λ q. ((here.to q).0, next.to (here.to q).1); from = λ q. here.from (q.0, next.from q.1) }
