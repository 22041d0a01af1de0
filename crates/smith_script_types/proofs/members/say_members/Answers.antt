use Rattle.std.proofs.Common.{arith, length, ◌≡◌, ◌+◌}
use Rattle.smith_script_types.proofs.CoreTurns.{loop_at, loop_over}
use Rattle.smith_script_types.proofs.Saying.{gives_up, towards_end, towards_exit, unsaid_right}
use Rattle.smith_script_types.proofs.members.say_members.Goals as goal

pub returns-in_err-say : goal.returns-in_err-say
returns-in_err-say g c =
    gives_up _ _ _ _ c.from_residual-in_err-say.ensures.1
    (towards_exit _ _ c.loop-done.invariant (loop_at _ _ _ _ _ _ _ _ c.loop-done-test.true c.index-items-done.is)
    (unsaid_right _ (c.in_err-say.ensures {u = tt})))

pub returns : goal.returns
returns g c =
    let all : c.loop-done.done ≡ length c.args.items.now = omega (arith, c.loop-done-test.false, c.loop-done.auto.done-end) in
    towards_end c.say_end.result _ c.loop-done.invariant
    (rw (
      loop_over (g.T.Scripted.script c.args.context.now) (λ count x. count + 1) c.args.min c.args.max c.args.items.now c.loop-done.done c.loop-done.done
          c.loop-done-test.false,
      all,
    ) c.say_end.ensures)
