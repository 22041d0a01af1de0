use Rattle.std.proofs.Common.{arith}
use Rattle.std.proofs.lemmas.Option.{MatchOption-at_some}
use Rattle.smith_read.specs.PartNodes.{shown_tree}
use Rattle.smith_read.specs.Walk.{shown_step, to_come}
use Rattle.smith_verdict.proofs.ModuleWalk.{finding_first, finding_next}
use Rattle.smith_verdict.proofs.module_walk.check_modules.Goals as goal

pub loop-steps-init : goal.loop-steps-init
loop-steps-init c = finding_first (shown_tree c.args.component.now) (to_come c.new-steps.result) c.new-steps.ensures

pub loop-steps-preserved : goal.loop-steps-preserved
loop-steps-preserved c =
    let first = MatchOption-at_some _ _ c.in-Some.step c.in-Some.is c.in_ok-step.ensures in
    let sum = (rw c.in_ok-item.ensures.ok_part at c.checked_add.ensures).1 in
    finding_next (shown_tree c.args.component.now) (shown_step c.in-Some.step) (to_come c.next.new.self) (to_come c.loop-steps.steps) c.loop-steps.item
    c.in_ok-item.item c.loop-steps.found c.in_ok-found.found first c.loop-steps.invariant (omega (arith, sum, c.items.ensures)) (c.in_ok-found.ensures {u = tt})
