use Rattle.std.proofs.Common.{IfErr, IfOk, None, Some, subst, sym}
use Rattle.smith_c.specs.Changes.{ChangesNext, LacksChange}
use Rattle.smith_c.proofs.Changes.{found_none, found_some}
use Rattle.smith_c.proofs.change.next.Goals as goal

pub returns-clause-changes : goal.returns-clause-changes
returns-clause-changes c =
    subst (λ r. IfOk r (λ s. ChangesNext c.args.bytes.now c.args.from (Some (s.number, s.bytes.items)))) (sym c.found.ensures)
    (found_some (λ s. (s.number, s.bytes.items)) (ChangesNext c.args.bytes.now c.args.from) c.next_changed.result c.next_changed.ensures.answered)

pub returns-clause-refuses : goal.returns-clause-refuses
returns-clause-refuses c =
    subst (λ r. IfErr r (λ s. LacksChange (ChangesNext c.args.bytes.now c.args.from None) c.args.bytes.now s)) (sym c.found.ensures)
    (found_none (λ s. (s.number, s.bytes.items)) (ChangesNext c.args.bytes.now c.args.from) c.args.bytes.now c.next_changed.result
    c.next_changed.ensures.answered c.next_changed.ensures.refuses)
