use Rattle.std.proofs.Common.{IfErr, IfOk, None, Some, subst, sym}
use Rattle.smith_tree.specs.WellFormed.{WellFormed}
use Rattle.smith_c.specs.Reduces.{IsSmaller, Lacks}
use Rattle.smith_c.proofs.Reduces.{found_none, found_some, no_limits}
use Rattle.smith_c.proofs.reduce.reduced_formed.Goals as goal

pub returns-clause-reduces : goal.returns-clause-reduces
returns-clause-reduces c =
    subst (λ r. IfOk r (λ b. IsSmaller WellFormed c.args.bytes.now c.args.k (Some b.items))) (sym c.found.ensures)
    (found_some (λ b. b.items) (IsSmaller WellFormed c.args.bytes.now c.args.k) c.smaller.result c.smaller.ensures.answered)

pub returns-clause-refuses : goal.returns-clause-refuses
returns-clause-refuses c =
    subst (λ r. IfErr r (λ s. Lacks (IsSmaller WellFormed c.args.bytes.now c.args.k None) c.args.bytes.now s)) (sym c.found.ensures)
    (found_none (λ b. b.items) (IsSmaller WellFormed c.args.bytes.now c.args.k) c.args.bytes.now c.smaller.result c.smaller.ensures.answered
    (no_limits c.args.bytes.now c.smaller.result c.smaller.ensures.refuses c.smaller.ensures.limits))
