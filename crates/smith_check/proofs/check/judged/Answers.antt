use Rattle.std.proofs.Common.{◌≡◌, sym, ◌∙◌}
use Rattle.std.proofs.lemmas.Option.{MatchOption-at_some}
use Rattle.smith_read.specs.PartNodes.{shown_tree}
use Rattle.smith_read.specs.Walk.{shown_step, to_come}
use Rattle.smith_check.specs.declared.error.Asker.TheVariants.{Lupinanon, Standard}
use Rattle.smith_check.proofs.Stepping.{even, going_broken, going_first, going_next, going_stop}
use Rattle.smith_check.proofs.check.judged.Goals as goal

pub loop-check-init : goal.loop-check-init
loop-check-init c =
    going_first (shown_tree c.args.component.now) c.new-check.result (to_come c.new-steps.result) c.new-steps.ensures c.new-check.ensures

pub step-requires : goal.step-requires
step-requires c = even c.loop-check.check c.loop-check.invariant.at c.loop-check.invariant.stands

pub returns-in-Err-IllFormed : goal.returns-in-Err-IllFormed
returns-in-Err-IllFormed c =
    let g = c.loop-check.invariant in
    let t = shown_tree c.args.component.now in
    let x = shown_step c.in-Some.step in
    let first = MatchOption-at_some _ _ c.in-Some.step c.in-Some.is c.in_ok-step.ensures in
    let stopped = going_stop t x (to_come c.next.new.self) (to_come c.loop-check.steps) first c.loop-check.check c.loop-check.item g
    ((c.in-Err-IllFormed.ensures.judged g.at g.stands).is (λ z. let y = sym c.in-Err-IllFormed.field-0-is ∙ z in absurd cc)) in (
      stopped.0,
      stopped.1,
      λ _. going_broken t x (to_come c.next.new.self) (to_come c.loop-check.steps) first c.loop-check.check c.loop-check.item g
          ((c.in-Err-IllFormed.ensures.graded g.at g.stands).is _ c.in-Err-IllFormed.field-0-is),
    )

pub returns-in-Err-Outside : goal.returns-in-Err-Outside
returns-in-Err-Outside c =
    let g = c.loop-check.invariant in
    let first = MatchOption-at_some _ _ c.in-Some.step c.in-Some.is c.in_ok-step.ensures in
    let stopped = going_stop (shown_tree c.args.component.now) (shown_step c.in-Some.step) (to_come c.next.new.self) (to_come c.loop-check.steps) first
    c.loop-check.check c.loop-check.item g
    ((c.in-Err-Outside.ensures.judged g.at g.stands).is (λ z. let y = sym c.in-Err-Outside.field-0-is ∙ z in absurd cc)) in
    (stopped.0, stopped.1, λ e. let z : Lupinanon ≡ Standard = e in absurd cc)

pub loop-check-preserved : goal.loop-check-preserved
loop-check-preserved c =
    let g = c.loop-check.invariant in
    let first = MatchOption-at_some _ _ c.in-Some.step c.in-Some.is c.in_ok-step.ensures in
    going_next (shown_tree c.args.component.now) (shown_step c.in-Some.step) (to_come c.next.new.self) (to_come c.loop-check.steps) first c.loop-check.check
    c.loop-check.item g c.step.new.self c.in_ok-item.item c.in_ok-item.ensures (c.in-Ok.ensures.judged g.at g.stands) (c.in-Ok.ensures.passed g.at g.stands)
