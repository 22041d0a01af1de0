use Rattle.std.proofs.Common.{arith, IfErr, IfOk, subst}
use Rattle.smith_format.specs.Consistency.{IsConsistent}
use Rattle.smith_format.specs.declared.config.Config.{Config}
use Rattle.smith_tree.proofs.Components.{valid_tree}
use Rattle.smith_component.specs.Refusals.{IsRefusal}
use Rattle.smith_component.specs.Runs.{RunsTo}
use Rattle.smith_component.proofs.Finishing.{err_by, ok_by}
use Rattle.smith_component.proofs.Plans.{plan_lacks_none, plan_refuses_no_module, run_is_plan}
use Rattle.smith_component.proofs.Refusals.{refused_accepted}
use Rattle.smith_component.proofs.RunsButLast.{runs_end}
use Rattle.smith_component.proofs.RunsFinishable.{runs_finish}
use Rattle.smith_component.proofs.RunsReadable.{runs_come}
use Rattle.smith_component.proofs.component.Component.new.Goals as goal

pub returns-clause-made : goal.returns-clause-made
returns-clause-made c =
    let is = c.new-progress.ensures.made.0 in
    let consistent = subst IsConsistent is c.new-progress.ensures.sound.0.sound.consistent in
    let run = subst (λ (k : Config). IfOk c.run.result (λ x. RunsTo k c.args.u.now x c.run.new.u)) is c.run.ensures.run in
    ok_by c.run.result
    (λ x r. record {
      run = r;
      image = runs_come _ _ _ _ consistent r;
      finishable = λ followed. runs_finish _ _ _ _ followed r;
      but_last = runs_end _ _ _ _ r;
    }) run

pub returns-clause-validates : goal.returns-clause-validates
returns-clause-validates c valid = grind (arith, ok_by, valid_tree, runs_come)

pub returns-clause-reach : goal.returns-clause-reach
returns-clause-reach c plan rest w e =
    let is = c.new-progress.ensures.made.0 in
    let consistent = subst IsConsistent is c.new-progress.ensures.sound.0.sound.consistent in
    let run = subst (λ (k : Config). IfOk c.run.result (λ x. RunsTo k c.args.u.now x c.run.new.u)) is c.run.ensures.run in
    ok_by c.run.result (λ x r. run_is_plan c.args.config c.args.u.now plan rest consistent w e _ _ r) run

pub returns-clause-input : goal.returns-clause-input
returns-clause-input c = grind arith

pub returns-clause-answers : goal.returns-clause-answers
returns-clause-answers c plan rest consistent w e =
    let input = c.args.u.now in
    let left = c.run.new.u in
    let refusal = subst (λ (k : Config). IfErr c.run.result (λ x. IsRefusal k input x left)) c.new-progress.ensures.made.0 c.run.ensures.refuses in
    err_by c.run.result
    (λ x r. refused_accepted c.args.config left input consistent (plan_lacks_none c.args.config input plan rest consistent w e left)
    (plan_refuses_no_module c.args.config input plan rest consistent w e left) x r) refusal
