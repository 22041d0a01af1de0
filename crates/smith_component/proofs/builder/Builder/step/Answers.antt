use Rattle.std.proofs.Common.{arith, ◌≡◌, Some, true, sym, subst}
use Rattle.smith_component.specs.Building.{Building}
use Rattle.smith_component.specs.BuilderView.{building_of, stack_of}
use Rattle.smith_component.specs.Steps.{next_of, step_of, IsTurn, SoundUnlessDone}
use Rattle.smith_component.specs.Turn.{Turn}
use Rattle.smith_component.proofs.Finishing.{refused}
use Rattle.smith_component.proofs.Refusals.{never_minimum}
use Rattle.smith_component.proofs.RunsTo.{open_few}
use Rattle.smith_component.proofs.RunsReadable.{read_after, step_after, step_validates}
use Rattle.smith_component.proofs.Turn.{falls}
use Rattle.smith_component.proofs.builder.Builder.step.Goals as goal

pub returns-in_err-done-clause-refusals : goal.returns-in_err-done-clause-refusals
returns-in_err-done-clause-refusals c = grind (arith, refused, never_minimum)

pub returns-in-None-clause-steps : goal.returns-in-None-clause-steps
returns-in-None-clause-steps c = grind (arith, step_after)

pub returns-in-Some-clause-steps : goal.returns-in-Some-clause-steps
returns-in-Some-clause-steps c =
    let b = c.self.inside.progress in
    let turn = subst (λ d. IsTurn (building_of b) c.args.u.now (step_of c.turn.new.self d) c.turn.new.u) c.in-Some.is c.in_ok-done.ensures.steps in
    rw (← c.self.view_is) (step_after (building_of b) c.args.u.now _ c.turn.new.u c.self.invariant.so_far turn)

pub returns-in-Some-clause-validates : goal.returns-in-Some-clause-validates
returns-in-Some-clause-validates c valid =
    let b = c.self.inside.progress in
    let turn = subst (λ d. IsTurn (building_of b) c.args.u.now (step_of c.turn.new.self d) c.turn.new.u) c.in-Some.is c.in_ok-done.ensures.steps in
    let step = step_after (building_of b) c.args.u.now _ c.turn.new.u c.self.invariant.so_far turn in
    let C : Building → Type 0 = λ v. v.config.must_validate ≡ true in
    step_validates b.config (step_of c.turn.new.self (Some c.in-Some.component)) (subst C (sym c.self.view_is) valid)
    c.self.invariant.sound.0.sound.consistent step.keeps

pub invariant_of-result : goal.invariant_of-result
invariant_of-result c =
    let b = c.self.inside.progress in
    let turn = subst (λ d. IsTurn (building_of b) c.args.u.now (step_of c.turn.new.self d) c.turn.new.u) c.in-None.is c.in_ok-done.ensures.steps in
    record {
      sound = subst (SoundUnlessDone c.turn.new.self) c.in-None.is c.in_ok-done.ensures.sound;
      so_far = read_after (building_of b) c.args.u.now (building_of c.turn.new.self) c.turn.new.u c.self.invariant.so_far turn;
    }

pub returns-in-None-clause-falls : goal.returns-in-None-clause-falls
returns-in-None-clause-falls c =
    let b = c.self.inside.progress in
    let turn = subst (λ d. Turn b.config (stack_of b) c.args.u.now (next_of (step_of c.turn.new.self d)) c.turn.new.u) c.in-None.is
    c.in_ok-done.ensures.steps.turn in
    rw (← c.self.view_is) (falls _ _ _ _ _ (open_few b.config (stack_of b) c.self.invariant.sound.0.sound) turn)
