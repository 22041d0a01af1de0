use Rattle.std.proofs.Common.{sym, arith}
use Rattle.smith_script.proofs.Differing.{ends_here}
use Rattle.smith_script.proofs.scripting.common_length.Goals as goal

pub returns-then-one-index : goal.returns-then-one-index
returns-then-one-index c =
    sym (ends_here c.args.one.now c.args.other.now c.loop-index.index (omega (arith, c.min-most.ensures, c.loop-index-test.true))
    (omega (arith, c.min-most.ensures, c.loop-index-test.true)) c.loop-index.invariant (λ a b e. c.if-one-index.true e))

pub returns : goal.returns
returns c =
    sym (ends_here c.args.one.now c.args.other.now c.min-most.result (omega (arith, c.min-most.ensures)) (omega (arith, c.min-most.ensures))
    (λ k h. c.loop-index.invariant k (omega (arith, h, c.loop-index-test.false, c.loop-index.auto.index-end)))
    (λ a b. absurd (omega (arith, c.min-most.ensures, a, b))))
