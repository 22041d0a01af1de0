use Rattle.std.proofs.Common.{◌≡◌, true}
use Rattle.smith_edit.proofs.KeptInside.{all_keep, one_does_not}
use Rattle.smith_edit.proofs.maxima.+keeping.Goals as goal

pub each_keeps_maxima-returns-then-not-branch-2 : goal.each_keeps_maxima-returns-then-not-branch-2
each_keeps_maxima-returns-then-not-branch-2 t c =
    let not = one_does_not c.args.config.now c.args.parts.now c.loop-part.part-index c.loop-part.invariant c.part-item.result c.loop-part-test.true
    c.part-item.is (λ keep. let bad = c.in_ok-keeps_maxima_inside.ensures.1 keep in absurd cc) in
    (λ is. absurd cc, λ keeps. absurd (not keeps.1))

pub each_keeps_maxima-loop-part-preserved : goal.each_keeps_maxima-loop-part-preserved
each_keeps_maxima-loop-part-preserved t c =
    let is : c.in_ok-keeps_maxima_inside.field-0 ≡ true = cc in
    all_keep c.args.config.now c.args.parts.now c.loop-part.part-index c.loop-part.invariant c.part-item.result c.loop-part-test.true c.part-item.is
    (c.in_ok-keeps_maxima_inside.ensures.0 is)
