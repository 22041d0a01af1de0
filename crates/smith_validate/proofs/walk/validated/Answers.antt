use Rattle.std.proofs.Common.{arith}
use Rattle.std.proofs.lemmas.Option.{MatchOption-at_some}
use Rattle.smith_read.specs.PartNodes.{shown_tree}
use Rattle.smith_read.specs.Walk.{shown_step, to_come}
use Rattle.smith_validate.proofs.Going.{going_first, going_next, going_stop}
use Rattle.smith_validate.proofs.Standing.{even}
use Rattle.smith_validate.proofs.walk.validated.Goals as goal

pub loop-check-init : goal.loop-check-init
loop-check-init c =
    going_first (shown_tree c.args.component.now) c.new-check.result (to_come c.new-steps.result) c.new-steps.ensures c.new-check.ensures

pub step-requires : goal.step-requires
step-requires c = even c.loop-check.check c.loop-check.invariant.at c.loop-check.invariant.stands

pub returns-in-Err-Invalid : goal.returns-in-Err-Invalid
returns-in-Err-Invalid c =
    let g = c.loop-check.invariant in
    let first = MatchOption-at_some _ _ c.in-Some.step c.in-Some.is c.in_ok-step.ensures in
    rw c.in-Err-Invalid.field-0-is
    (going_stop (shown_tree c.args.component.now) (shown_step c.in-Some.step) (to_come c.next.new.self) (to_come c.loop-check.steps) first c.loop-check.check
    c.step.new.self c.loop-check.item g _ c.in-Err-Invalid.demand c.in-Err-Invalid.field-0-is c.in-Err-Invalid.ensures)

pub loop-check-preserved : goal.loop-check-preserved
loop-check-preserved c =
    let g = c.loop-check.invariant in
    let sum = (rw c.in_ok-item.ensures.ok_part at c.checked_add.ensures).1 in
    let first = MatchOption-at_some _ _ c.in-Some.step c.in-Some.is c.in_ok-step.ensures in
    going_next (shown_tree c.args.component.now) (shown_step c.in-Some.step) (to_come c.next.new.self) (to_come c.loop-check.steps) first c.loop-check.check
    c.step.new.self c.loop-check.item g c.in_ok-item.item (omega (arith, sum, c.items.ensures)) c.in-Ok.ensures
