use Rattle.std.proofs.Common.{◌≡◌, ◌+◌, map, ap, subst, sym, ◌∙◌, arith}
use Rattle.smith_format.proofs.Results.{ok_then}
use Rattle.smith_tree.specs.Tree.{Part, Tree, tree_of}
use Rattle.smith_tree.specs.Tree as part
use Rattle.smith_read.specs.PartNodes.{shown_part_node}
use Rattle.smith_read.proofs.PartNodes.{shown_nested}
use Rattle.smith_edit.proofs.NextComponent.{FirstAmong, FirstIn, end_step, found_step, inside_first, passed_step}
use Rattle.smith_edit.proofs.simpler.components.+finding_next.Goals as goal

pub first_among-returns-then-is_some : goal.first_among-returns-then-is_some
first_among-returns-then-is_some t c =
    found_step _ _ _ _ _ c.loop-node.invariant c.node-item.result c.loop-node-test.true c.node-item.is c.in_ok-first.first
    (sym c.is_some.ensures ∙ c.if-is_some.true) c.in_ok-first.ensures

pub first_among-loop-node-preserved : goal.first_among-loop-node-preserved
first_among-loop-node-preserved t c =
    passed_step _ _ _ _ _ c.loop-node.invariant c.node-item.result c.loop-node-test.true c.node-item.is c.in_ok-first.first
    (sym c.is_some.ensures ∙ c.if-is_some.false) c.in_ok-first.ensures c.in_ok-next.next
    (omega (arith, c.in_ok-next.ensures, c.in_ok-sum.ensures, c.in_ok-part_items.ensures))

pub first_among-returns : goal.first_among-returns
first_among-returns t c = end_step _ _ _ _ _ c.loop-node.invariant c.loop-node-test.false

pub first_in-returns : goal.first_in-returns
first_in-returns t c =
    let inner : Tree = tree_of (map shown_part_node c.in-Component.nodes.items) in
    let is : part.component inner ≡ shown_part_node c.args.node.now = sym (ap shown_part_node c.in-Component.is ∙ shown_nested c.in-Component.nodes) in
    let among = rw (c.deref.ensures.value, c.in_ok-sum.ensures) at c.first_among.ensures in
    ok_then (FirstAmong inner (c.args.number + 1) c.args.from) (FirstIn (shown_part_node c.args.node.now) c.args.number c.args.from) c.first_among.result
    (λ o h. subst (λ p. FirstIn p c.args.number c.args.from o) is (inside_first inner c.args.number c.args.from o c.if-from-number.false h)) among
