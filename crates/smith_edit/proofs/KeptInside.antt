-- Whether each component inside a component keeps maxima, section by section.
use Rattle.std.proofs.Common.{◌≡◌, ◌↔◌, ℕ, ◌+◌, ◌<◌, ◌≤◌, ◌++◌, List, ap, subst, sym, drop, get_or, length, map}
use Rattle.std.specs.List.{AllByRecursion}
use Rattle.smith_format.specs.declared.config.Config.{Config}
use Rattle.smith_input.proofs.Lists.{all_back, all_both, all_front, map_drop, map_dropped}
use Rattle.smith_tree.specs.Tree.{Tree, anywhere_in, components_in, inside, tree_of}
use Rattle.smith_read.specs.PartNodes.{shown_part_node}
use Rattle.smith_read.specs.declared.nodes.PartNode.{PartNode}
use Rattle.smith_edit.specs.Counts.{KeepsOwnMaxima}

module _ (config : Config) where
  abbrev pub AllKeep : List Tree → Type 0
  AllKeep ts = AllByRecursion (KeepsOwnMaxima config) ts

  -- the components inside sections from that one on
  abbrev pub inside_from : List PartNode → ℕ → List Tree
  inside_from nodes i = inside (tree_of (map shown_part_node (drop i nodes)))

  module _ (nodes : List PartNode) (i : ℕ) {W : Type 0} (so_far : AllKeep (inside_from nodes i) ↔ W) where
    module _ (x : PartNode) (lt : i < length nodes) (at : x ≡ get_or nodes i x) where
      first_inside : inside_from nodes i ≡ anywhere_in components_in (shown_part_node x) ++ inside_from nodes (i + 1)
      first_inside = ap (λ ps. inside (tree_of ps)) (map_drop shown_part_node nodes i x lt at)

      pub all_keep : AllKeep (anywhere_in components_in (shown_part_node x)) → AllKeep (inside_from nodes (i + 1)) ↔ W
      all_keep keep = (
        λ rest. so_far.0
            (subst AllKeep (sym first_inside)
            (all_both (KeepsOwnMaxima config) (anywhere_in components_in (shown_part_node x)) (inside_from nodes (i + 1)) keep rest)),
        λ whole. all_back (KeepsOwnMaxima config) (anywhere_in components_in (shown_part_node x)) (inside_from nodes (i + 1))
            (subst AllKeep first_inside (so_far.1 whole)),
      )

      pub one_does_not : ¬ AllKeep (anywhere_in components_in (shown_part_node x)) → ¬ W
      one_does_not not whole = not
          (all_front (KeepsOwnMaxima config) (anywhere_in components_in (shown_part_node x)) (inside_from nodes (i + 1))
          (subst AllKeep first_inside (so_far.1 whole)))

    pub all_do : length nodes ≤ i → W
    all_do h = so_far.0 (subst AllKeep (sym (ap (λ ps. inside (tree_of ps)) (map_dropped shown_part_node nodes i h))) tt)
