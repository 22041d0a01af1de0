use Rattle.std.proofs.Common.{rules}
use Rattle.smith_read.specs.PartNodes.{shown_tree}
use Rattle.smith_verdict.proofs.Offsets.{found_short}
use Rattle.smith_verdict.proofs.validity.validity_of.Goals as goal

pub returns-in_ok-offset-in-Invalid : goal.returns-in_ok-offset-in-Invalid
returns-in_ok-offset-in-Invalid c =
    let t = shown_tree c.args.component.now in
    let short = rw c.in-Invalid.is at (c.in_ok-validated.ensures {u = tt}) in
    let formed = (c.in_ok-verdict.ensures {u = tt}).formed (search rules) in
    found_short c.args.bytes.now t c.in-Invalid.shortfall.demand _ _ c.requires.spelled formed short
    ((c.in_ok-offset-in-Invalid.ensures {u = tt}).found t c.requires.shallow c.requires.spelled)
