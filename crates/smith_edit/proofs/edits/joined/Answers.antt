use Rattle.std.proofs.Common.{◌++◌, ◌∙◌, List, ap, map, sym}
use Rattle.smith_read.specs.PartNodes.{shown_part_node}
use Rattle.smith_tree.specs.Spaces.{spaces_of}
use Rattle.smith_tree.specs.Tree.{Part, Tree, exports_in, exports_of, imports_in, imports_of, parts_of, tree_of}
use Rattle.smith_tree.specs.WellFormed.{export_names, import_names}
use Rattle.smith_edit.specs.Edits.{moved, renamed}
use Rattle.smith_edit.specs.Walk.{Walk, shown_walk}
use Rattle.smith_edit.proofs.Joining.{joined_end, joined_step, parts_same, unremoved_after}
use Rattle.smith_edit.proofs.edits.joined.Goals as goal

pub loop-node-preserved : goal.loop-node-preserved
loop-node-preserved c =
    let (is, es, knows, none, more) = c.loop-node.invariant in
    let w : Walk = shown_walk c.loop-node.walk in
    let p : Part = shown_part_node c.in_ok-renamed.field-0 in (
      is ++ import_names (imports_in p),
      es ++ export_names (exports_in p),
      c.in_ok-renamed.ensures.knows is es knows,
      ap (λ v. v.removal) c.in_ok-moved.ensures.walk ∙ unremoved_after (shown_part_node c.node-item.result) w none,
      rw c.in_ok-push.ensures.items
          (joined_step w (shown_walk c.edit_part.new.walk) is es c.deref-node-items.result.now c.loop-node.parts.items c.loop-node.node-index
          c.node-item.result c.in_ok-moved.moved c.in_ok-renamed.field-0 _ c.loop-node-test.true c.node-item.is
          none c.in_ok-moved.ensures.edited c.in_ok-moved.ensures.walk (c.in_ok-renamed.ensures.part is es knows) more),
    )

pub returns : goal.returns
returns c =
    let (is, es, knows, none, more) = c.loop-node.invariant in
    let left : List Part = map shown_part_node c.args.left.parts.items in
    let right : Tree = moved (spaces_of (tree_of left)) (tree_of (map shown_part_node c.args.right.now.parts.items)) in
    let whole = rw c.deref-node-items.ensures.value at
    (joined_end (shown_walk c.loop-node.walk) is es c.deref-node-items.result.now c.loop-node.node-index
    (map shown_part_node c.loop-node.parts.items) _ c.loop-node-test.false more) in
    ap tree_of whole
    ∙ ap (λ ps. tree_of (ps ++ parts_of (renamed right (import_names (imports_of (tree_of left))) (export_names (exports_of (tree_of left))))))
    (sym (parts_same left))
