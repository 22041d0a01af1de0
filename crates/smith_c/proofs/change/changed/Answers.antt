use Rattle.std.proofs.Common.{IfErr, IfOk, None, Some, subst, sym}
use Rattle.smith_c.specs.Changes.{Changes, LacksChange}
use Rattle.smith_c.proofs.Changes.{found_none, found_some}
use Rattle.smith_c.proofs.change.changed.Goals as goal

pub returns-clause-changes : goal.returns-clause-changes
returns-clause-changes c =
    subst (λ r. IfOk r (λ b. Changes c.args.bytes.now c.args.number (Some b.items))) (sym c.found.ensures)
    (found_some (λ b. b.items) (Changes c.args.bytes.now c.args.number) c.changed_bytes.result c.changed_bytes.ensures.answered)

pub returns-clause-refuses : goal.returns-clause-refuses
returns-clause-refuses c =
    subst (λ r. IfErr r (λ s. LacksChange (Changes c.args.bytes.now c.args.number None) c.args.bytes.now s)) (sym c.found.ensures)
    (found_none (λ b. b.items) (Changes c.args.bytes.now c.args.number) c.args.bytes.now c.changed_bytes.result c.changed_bytes.ensures.answered
    c.changed_bytes.ensures.refuses)
