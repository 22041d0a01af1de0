use Rattle.std.proofs.Common.{IfErr, IfOk, None, Some, subst, sym}
use Rattle.smith_tree.specs.WellFormed.{WellFormed}
use Rattle.smith_c.specs.Reduces.{IsNextSmaller, Lacks}
use Rattle.smith_c.proofs.Reduces.{found_none, found_some, no_limits}
use Rattle.smith_c.proofs.reduce.next_reduced_formed.Goals as goal

pub returns-clause-reduces : goal.returns-clause-reduces
returns-clause-reduces c =
    subst (λ r. IfOk r (λ s. IsNextSmaller WellFormed c.args.bytes.now c.args.from (Some (s.number, s.bytes.items)))) (sym c.found.ensures)
    (found_some (λ s. (s.number, s.bytes.items)) (IsNextSmaller WellFormed c.args.bytes.now c.args.from) c.next_smaller.result
    c.next_smaller.ensures.answered)

pub returns-clause-refuses : goal.returns-clause-refuses
returns-clause-refuses c =
    subst (λ r. IfErr r (λ s. Lacks (IsNextSmaller WellFormed c.args.bytes.now c.args.from None) c.args.bytes.now s)) (sym c.found.ensures)
    (found_none (λ s. (s.number, s.bytes.items)) (IsNextSmaller WellFormed c.args.bytes.now c.args.from) c.args.bytes.now c.next_smaller.result
    c.next_smaller.ensures.answered (no_limits c.args.bytes.now c.next_smaller.result c.next_smaller.ensures.refuses
    c.next_smaller.ensures.limits))
