use Rattle.std.proofs.Common.{subst, sym}
use Rattle.smith_input.proofs.Rests.{drop_past}
use Rattle.smith_validate.specs.Deferring.{Adds}
use Rattle.smith_validate.proofs.Deferring.{adds_at, adds_none}
use Rattle.smith_validate.proofs.exposure.Exposure.add_all.Goals as goal

pub loop-used-preserved : goal.loop-used-preserved
loop-used-preserved c = λ newer a.
    let s = c.loop-used.self in
    c.loop-used.invariant newer
    (adds_at s c.add_use.new.self newer c.args.uses.now c.loop-used.used-index _ c.loop-used-test.true (c.in_ok-add_use.ensures {u = tt}) a)

pub returns : goal.returns
returns c =
    let us = c.args.uses.now in
    let s = c.loop-used.self in
    c.loop-used.invariant s (subst (λ vs. Adds s s vs) (sym (drop_past us c.loop-used.used-index c.loop-used-test.false)) (adds_none s))
