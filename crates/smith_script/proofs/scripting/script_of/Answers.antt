use Rattle.smith_read.specs.PartNodes.{shown_tree}
use Rattle.smith_script.proofs.Given.{given_formed, script_given}
use Rattle.smith_script.proofs.scripting.script_of.Goals as goal

pub returns-in-IllFormed : goal.returns-in-IllFormed
returns-in-IllFormed c b script =
    let tree = shown_tree c.args.tree.now in
    let formed = given_formed c.args.config.now tree b (script_given c.args.config.now tree b script) in
    let judged = rw c.in-IllFormed.is at (c.in_ok-judged.ensures {u = tt}) in
    judged.0 formed
