use Rattle.std.proofs.Common.{◌≡◌, List, Option, map, IfOk, ap, subst, sym, ◌∙◌}
use Rattle.std.specs.Option.{option_map}
use Rattle.smith_tree.specs.Tree.{Tree, tree_of}
use Rattle.smith_tree.specs.Tree as part
use Rattle.smith_read.specs.PartNodes.{shown_part_node}
use Rattle.smith_read.specs.declared.nodes.PartNode.{PartNode}
use Rattle.smith_read.proofs.PartNodes.{shown_nested}
use Rattle.smith_edit.specs.Items.{tree_items}
use Rattle.smith_edit.specs.Search.{found}
use Rattle.smith_edit.specs.Simpler.{component_at}
use Rattle.smith_edit.proofs.Nested.{found_later, look_in}
use Rattle.smith_edit.proofs.simpler.+finding.Goals as goal

pub component_in-returns-clause-component : goal.component_in-returns-clause-component
component_in-returns-clause-component t c =
    let inner : Tree = tree_of (map shown_part_node c.in-Component.nodes.items) in
    let is : shown_part_node c.args.node.now ≡ part.component inner = ap shown_part_node c.in-Component.is ∙ shown_nested c.in-Component.nodes in
    let later : found (tree_items inner) c.step-here.new.self (λ k. component_at k inner) ≡ look_in c.args.search.now (shown_part_node c.args.node.now) =
    ap (λ z. found (tree_items inner) z (λ k. component_at k inner)) c.step-here.ensures.moved
    ∙ sym (found_later _ (λ k. component_at k inner) (tree_items inner) c.args.search.now (sym c.step-here.ensures.here ∙ c.if-here.false))
    ∙ sym (ap (look_in c.args.search.now) is) in
    subst (λ (o : Option Tree). IfOk c.component_at.result (λ r. option_map (λ ps. tree_of (map shown_part_node ps.now)) r ≡ o)) later
    (subst (λ (xs : List PartNode). IfOk c.component_at.result (λ r. option_map (λ ps. tree_of (map shown_part_node ps.now)) r
    ≡ found (tree_items (tree_of (map shown_part_node xs))) c.step-here.new.self (λ k. component_at k (tree_of (map shown_part_node xs)))))
    c.deref-2.ensures.value c.component_at.ensures.component)
