use Rattle.std.proofs.Common.{◌≡◌, ◌∙◌, ◌+◌, ◌-◌, [], sym, arith, refl}
use Rattle.smith_script_types.proofs.Saying.{adds_then, gives_up, towards_done, towards_exit, towards_step, unsaid_left, unsaid_right}
use Rattle.smith_script_types.proofs.Saying.{functions_left, functions_over, functions_said}
use Rattle.smith_script.proofs.stand_ins.say_functions.Goals as goal

pub returns-in_err-say_more-clause-said : goal.returns-in_err-say_more-clause-said
returns-in_err-say_more-clause-said c =
    let count = c.args.count - c.loop-done.done in
    gives_up _ _ _ _ c.from_residual.ensures.1
    (towards_exit _ _ c.loop-done.invariant.said
    (functions_said c.args.config.now c.loop-done.done count (c.args.count - (c.loop-done.done + 1))
    c.loop-done.left.now (omega (arith, c.loop-done-test.true)))
    (unsaid_left _ (c.in_err-say_more.ensures {u = tt})))

pub returns-in_err-left-clause-said : goal.returns-in_err-left-clause-said
returns-in_err-left-clause-said c =
    let count = c.args.count - c.loop-done.done in
    gives_up _ _ _ _ c.from_residual-in_err-left.ensures.1
    (towards_exit _ _ c.loop-done.invariant.said
    (functions_said c.args.config.now c.loop-done.done count (c.args.count - (c.loop-done.done + 1))
    c.loop-done.left.now (omega (arith, c.loop-done-test.true)))
    (unsaid_right _ c.in_err-left.ensures.said))

pub loop-done-preserved : goal.loop-done-preserved
loop-done-preserved c =
    let count = c.args.count - c.loop-done.done in
    let less = c.args.count - (c.loop-done.done + 1) in
    let more : count ≡ less + 1 = omega (arith, c.loop-done-test.true) in
    rw c.in_ok-left.ensures.left (record {
      said = towards_step _ _ c.loop-done.invariant.said (functions_said c.args.config.now c.loop-done.done count less c.loop-done.left.now more)
          (adds_then (c.in_ok-say_more.ensures {u = tt}) c.in_ok-left.ensures.said);
      left = sym (functions_left count less c.loop-done.left.now more) ∙ c.loop-done.invariant.left;
    })

pub returns-in_err-say_end-clause-said : goal.returns-in_err-say_end-clause-said
returns-in_err-say_end-clause-said c =
    let all : c.loop-done.done ≡ c.args.count = omega (arith, c.loop-done-test.false, c.loop-done.auto.done-end) in
    gives_up _ _ _ _ c.from_residual-in_err-say_end.ensures.1
    (towards_exit _ [] c.loop-done.invariant.said
    (functions_over c.args.config.now c.loop-done.done c.args.count (c.args.count - c.loop-done.done) c.loop-done.left.now (omega (arith, all)) all)
    (rw c.min.ensures at (c.in_err-say_end.ensures {u = tt})))

pub returns-clause-said : goal.returns-clause-said
returns-clause-said c =
    let all : c.loop-done.done ≡ c.args.count = omega (arith, c.loop-done-test.false, c.loop-done.auto.done-end) in
    towards_done (towards_step _ [] c.loop-done.invariant.said
    (functions_over c.args.config.now c.loop-done.done c.args.count (c.args.count - c.loop-done.done) c.loop-done.left.now (omega (arith, all)) all)
    (rw c.min.ensures at (c.in_ok-say_end.ensures {u = tt}))) refl
