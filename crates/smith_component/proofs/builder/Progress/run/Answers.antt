use Rattle.std.proofs.Common.{◌+◌, ◌≤◌, arith, ap, ◌∙◌, subst}
use Rattle.smith_input.proofs.Reading.{tail_same, tail_trans}
use Rattle.smith_component.specs.BuilderView.{stack_of}
use Rattle.smith_component.specs.Steps.{next_of, step_of, SoundUnlessDone, StaysWithin}
use Rattle.smith_component.specs.Turn.{Turn}
use Rattle.smith_component.specs.Runs.{todo}
use Rattle.smith_component.proofs.Finishing.{refused}
use Rattle.smith_component.proofs.RunsTo.{open_few, reached_start, reached_step, reached_refusal, reached_answer}
use Rattle.smith_component.proofs.Turn.{falls}
use Rattle.smith_component.proofs.builder.Progress.run.Goals as goal

pub loop-done-init : goal.loop-done-init
loop-done-init c = grind (arith, tail_same, reached_start)

pub loop-done-preserved : goal.loop-done-preserved
loop-done-preserved c =
    let i = c.loop-done.invariant in
    let b = c.loop-done.self in
    let e = c.in_ok-done.ensures in
    let is = c.in-None.is in
    record {
      config = subst (λ d. StaysWithin b.config (step_of c.turn.new.self d)) is e.steps.keeps ∙ i.config;
      consistent = i.consistent;
      sound = subst (SoundUnlessDone c.turn.new.self) is e.sound;
      tail = tail_trans c.turn.ensures.tail i.tail;
      reached = reached_step _ _ _ _ _ _ _ _ i.config (ap (λ d. next_of (step_of c.turn.new.self d)) is) i.reached e.steps.turn;
    }

pub loop-done-smaller : goal.loop-done-smaller
loop-done-smaller c =
    let i = c.loop-done.invariant in
    let b = c.loop-done.self in
    let turn = subst (λ d. Turn b.config (stack_of b) c.loop-done.u (next_of (step_of c.turn.new.self d)) c.turn.new.u) c.in-None.is
    c.in_ok-done.ensures.steps.turn in
    let fewer : todo b.config c.turn.new.u (stack_of c.turn.new.self) + 1 ≤ todo b.config c.loop-done.u (stack_of b) =
    falls _ _ _ _ _ (open_few b.config (stack_of b) i.sound.0.sound) turn in
    rw (← i.config) (omega (arith, fewer))

pub returns-in-Some-clause-run : goal.returns-in-Some-clause-run
returns-in-Some-clause-run c = grind (arith, reached_answer)

pub returns-in_err-done-clause-refuses : goal.returns-in_err-done-clause-refuses
returns-in_err-done-clause-refuses c = grind (arith, refused, reached_refusal)
