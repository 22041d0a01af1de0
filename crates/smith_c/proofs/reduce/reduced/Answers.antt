use Rattle.std.proofs.Common.{IfErr, IfOk, Some, subst, sym}
use Rattle.smith_reduce.specs.Smaller.{HasScript}
use Rattle.smith_c.specs.Reduces.{IsSmaller, Reduces, Unreduced}
use Rattle.smith_c.proofs.Reduces.{within_none, within_some}
use Rattle.smith_c.proofs.reduce.reduced.Goals as goal

pub returns-clause-reduces : goal.returns-clause-reduces
returns-clause-reduces c =
    subst (λ r. IfOk r (λ b. Reduces c.args.limits.now c.args.bytes.now c.args.k (Some b.items))) (sym c.found.ensures)
    (within_some c.args.limits.now c.args.bytes.now c.in-Some.config c.in-Some.ensures.told (λ b. b.items)
    (λ k r. IsSmaller (HasScript k) c.args.bytes.now c.args.k r) c.smaller.result c.smaller.ensures.answered c.smaller.ensures.accepts)

pub returns-clause-refuses : goal.returns-clause-refuses
returns-clause-refuses c =
    subst (λ r. IfErr r (λ s. Unreduced c.args.limits.now c.args.bytes.now c.args.k s)) (sym c.found.ensures)
    (within_none c.args.limits.now c.args.bytes.now c.in-Some.config c.in-Some.ensures.told (λ b. b.items)
    (λ k r. IsSmaller (HasScript k) c.args.bytes.now c.args.k r) c.smaller.result c.smaller.ensures.answered c.smaller.ensures.accepts
    c.smaller.ensures.refuses c.smaller.ensures.limits)
