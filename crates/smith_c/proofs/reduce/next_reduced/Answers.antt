use Rattle.std.proofs.Common.{IfErr, IfOk, None, Some, subst, sym}
use Rattle.smith_reduce.specs.Smaller.{HasScript}
use Rattle.smith_c.specs.Reduces.{IsNextSmaller, LacksWithin, ReducesNext}
use Rattle.smith_c.proofs.Reduces.{within_none, within_some}
use Rattle.smith_c.proofs.reduce.next_reduced.Goals as goal

pub returns-clause-reduces : goal.returns-clause-reduces
returns-clause-reduces c =
    subst (λ r. IfOk r (λ s. ReducesNext c.args.limits.now c.args.bytes.now c.args.from (Some (s.number, s.bytes.items)))) (sym c.found.ensures)
    (within_some c.args.limits.now c.args.bytes.now c.in-Some.config c.in-Some.ensures.told (λ s. (s.number, s.bytes.items))
    (λ k r. IsNextSmaller (HasScript k) c.args.bytes.now c.args.from r) c.next_smaller.result c.next_smaller.ensures.answered
    c.next_smaller.ensures.accepts)

pub returns-clause-refuses : goal.returns-clause-refuses
returns-clause-refuses c =
    subst (λ r. IfErr r (λ s. LacksWithin (ReducesNext c.args.limits.now c.args.bytes.now c.args.from None) c.args.limits.now c.args.bytes.now s))
    (sym c.found.ensures)
    (within_none c.args.limits.now c.args.bytes.now c.in-Some.config c.in-Some.ensures.told (λ s. (s.number, s.bytes.items))
    (λ k r. IsNextSmaller (HasScript k) c.args.bytes.now c.args.from r) c.next_smaller.result c.next_smaller.ensures.answered
    c.next_smaller.ensures.accepts c.next_smaller.ensures.refuses c.next_smaller.ensures.limits)
