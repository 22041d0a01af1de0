use Rattle.std.proofs.Common.{◌∙◌, ap}
use Rattle.smith_edit.proofs.Editing.{decl_after, decl_editing, edited_end, edited_step, removal_end, removal_step}
use Rattle.smith_edit.proofs.types.+editing.Goals as goal

pub edit_declarations-loop-node-preserved : goal.edit_declarations-loop-node-preserved
edit_declarations-loop-node-preserved t c =
    let is = c.in_ok-new.ensures.edited in
    let on = decl_after _ _ _ _ _ is c.in_ok-new.ensures.walk c.in_ok-add_declaration.ensures in
    record {
      left = edited_step decl_editing _ _ _ _ _ c.loop-node-test.true c.node-item.is on _ _ _ _ is c.in_ok-push_some.ensures c.loop-node.invariant.left;
      removal = removal_step decl_editing _ _ _ _ _ c.loop-node-test.true c.node-item.is on _ c.loop-node.invariant.removal;
      outer = ap (λ w. w.outer) c.in_ok-new.ensures.walk ∙ c.loop-node.invariant.outer;
    }

pub edit_declarations-returns-clause-left : goal.edit_declarations-returns-clause-left
edit_declarations-returns-clause-left t c = edited_end decl_editing _ _ _ _ _ c.loop-node-test.false c.loop-node.invariant.left

pub edit_declarations-returns-clause-removal : goal.edit_declarations-returns-clause-removal
edit_declarations-returns-clause-removal t c = removal_end decl_editing _ _ _ _ c.loop-node-test.false c.loop-node.invariant.removal
