use Rattle.std.proofs.Common.{IfErr, IfOk, None, Some, subst, sym}
use Rattle.smith_c.specs.Reduces.{Lacks, Removes}
use Rattle.smith_c.proofs.Reduces.{found_none, found_some}
use Rattle.smith_c.proofs.reduce.removed.Goals as goal

pub returns-clause-removes : goal.returns-clause-removes
returns-clause-removes c =
    subst (λ r. IfOk r (λ b. Removes c.args.bytes.now c.args.k (Some b.items))) (sym c.found.ensures)
    (found_some (λ b. b.items) (Removes c.args.bytes.now c.args.k) c.without.result c.without.ensures.answered)

pub returns-clause-refuses : goal.returns-clause-refuses
returns-clause-refuses c =
    subst (λ r. IfErr r (λ s. Lacks (Removes c.args.bytes.now c.args.k None) c.args.bytes.now s)) (sym c.found.ensures)
    (found_none (λ b. b.items) (Removes c.args.bytes.now c.args.k) c.args.bytes.now c.without.result c.without.ensures.answered
    c.without.ensures.refuses)
