use Rattle.std.proofs.Common.{◌∙◌, ap, sym}
use Rattle.smith_read.specs.PartNodes.{shown_part_node}
use Rattle.smith_edit.specs.Edited.{within}
use Rattle.smith_edit.specs.Walk.{shown_walk}
use Rattle.smith_edit.proofs.Past.{after_kept, part_outer}
use Rattle.smith_edit.proofs.Editing.{edited_end, edited_step, part_editing, removal_end, removal_step}
use Rattle.smith_edit.proofs.parts.+parts.Goals as goal

pub edit_parts-loop-node-preserved : goal.edit_parts-loop-node-preserved
edit_parts-loop-node-preserved t c =
    let on = c.in_ok-new.ensures.walk in
    record {
      left = edited_step part_editing _ _ _ _ _ c.loop-node-test.true c.node-item.is on _ _ _ _ c.in_ok-new.ensures.edited
          c.in_ok-push_some.ensures c.loop-node.invariant.left;
      removal = removal_step part_editing _ _ _ _ _ c.loop-node-test.true c.node-item.is on _ c.loop-node.invariant.removal;
      outer = ap (λ w. w.outer) on ∙ part_outer (within (shown_walk c.loop-node.walk)) (shown_part_node c.node-item.result) ∙ c.loop-node.invariant.outer;
    }

pub edit_parts-returns-clause-left : goal.edit_parts-returns-clause-left
edit_parts-returns-clause-left t c = edited_end part_editing _ _ _ _ _ c.loop-node-test.false c.loop-node.invariant.left

pub edit_parts-returns-clause-removal : goal.edit_parts-returns-clause-removal
edit_parts-returns-clause-removal t c = removal_end part_editing _ _ _ _ c.loop-node-test.false c.loop-node.invariant.removal

pub edit_one-returns-clause-walk : goal.edit_one-returns-clause-walk
edit_one-returns-clause-walk t c =
    after_kept (shown_walk c.args.walk.now) (shown_walk c.edit_part.new.walk) (shown_part_node c.args.node.now) (sym c.if-removes.ensures)
    (rw c.inside-walk.ensures at c.in_ok-new.ensures.walk)
