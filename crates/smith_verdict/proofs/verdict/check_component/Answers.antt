use Rattle.smith_read.specs.PartNodes.{shown_tree}
use Rattle.smith_verdict.proofs.Offsets.{found_broken}
use Rattle.smith_verdict.proofs.verdict.check_component.Goals as goal

pub returns-in_ok-offset-in-IllFormed-clause-verdict : goal.returns-in_ok-offset-in-IllFormed-clause-verdict
returns-in_ok-offset-in-IllFormed-clause-verdict c =
    let agrees = rw c.in-IllFormed.is at (c.in_ok-judged.ensures {u = tt}) in
    found_broken c.args.bytes.now (shown_tree c.args.component.now) c.in-IllFormed.fault.rule _ _ c.requires.spelled c.requires.shallow agrees.0 agrees.1
    ((c.in_ok-offset-in-IllFormed.ensures {u = tt}).found (shown_tree c.args.component.now) c.requires.shallow c.requires.spelled)
