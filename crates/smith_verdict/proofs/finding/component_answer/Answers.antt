use Rattle.smith_read.specs.PartNodes.{shown_tree}
use Rattle.smith_verdict.proofs.Answering.{bound_answer, invalid_answer, outside_answer}
use Rattle.smith_verdict.proofs.finding.component_answer.Goals as goal

pub returns-in_ok-offset-in-Invalid : goal.returns-in_ok-offset-in-Invalid
returns-in_ok-offset-in-Invalid c =
    let t = shown_tree c.args.component.now in
    invalid_answer c.args.bytes.now t c.in-Invalid.rule c.in_ok-offset-in-Invalid.offset c.in-Invalid.item c.requires.spelled
    (rw c.in-Invalid.is at (c.in_ok-found_in.ensures {u = tt}))
    ((c.in_ok-offset-in-Invalid.ensures {u = tt}).found t c.requires.shallow c.requires.spelled)

pub returns-in_ok-offset-in-Bound : goal.returns-in_ok-offset-in-Bound
returns-in_ok-offset-in-Bound c =
    let t = shown_tree c.args.component.now in
    bound_answer c.args.bytes.now t c.in-Bound.demand c.in_ok-offset-in-Bound.offset c.in-Bound.item c.requires.spelled
    (rw c.in-Bound.is at (c.in_ok-found_in.ensures {u = tt}))
    ((c.in_ok-offset-in-Bound.ensures {u = tt}).found t c.requires.shallow c.requires.spelled)

pub returns-in_ok-offset-in-Outside : goal.returns-in_ok-offset-in-Outside
returns-in_ok-offset-in-Outside c =
    let t = shown_tree c.args.component.now in
    outside_answer c.args.bytes.now t c.in-Outside.why c.in_ok-offset-in-Outside.offset c.in-Outside.item c.requires.spelled
    (rw c.in-Outside.is at (c.in_ok-found_in.ensures {u = tt}))
    ((c.in_ok-offset-in-Outside.ensures {u = tt}).found t c.requires.shallow c.requires.spelled)
