use Rattle.std.proofs.Common.{refl}
use Rattle.smith_read.specs.PartNodes.{shown_tree}
use Rattle.smith_reduce.proofs.Allowed.{allowed_script, script_formed}
use Rattle.smith_reduce.proofs.generated.has_script.Goals as goal

pub returns-in-WellFormed : goal.returns-in-WellFormed
returns-in-WellFormed c =
    let formed = rw c.in-WellFormed.is at (c.in_ok-judged.ensures {u = tt}) in
    let allowed = c.in_ok-is_allowed.ensures {u = tt} c.if-branch.true in
    (λ is. allowed_script c.args.config.now (shown_tree c.args.component.now) c.args.bytes.now c.requires allowed formed, λ has. refl)

pub returns-in-IllFormed : goal.returns-in-IllFormed
returns-in-IllFormed c =
    let judged = rw c.in-IllFormed.is at (c.in_ok-judged.ensures {u = tt}) in
    (λ is. absurd (cc), λ has. absurd (judged.0 (script_formed c.args.config.now (shown_tree c.args.component.now) has)))

pub returns-in-Some : goal.returns-in-Some
returns-in-Some c = (λ is. (c.in-Some._script.items, rw c.in-Some.is at c.in_ok-_script.ensures), λ has. cc)

pub returns-in-None : goal.returns-in-None
returns-in-None c = (λ is. absurd (cc), λ has. absurd ((rw c.in-None.is at c.in_ok-_script.ensures) has.0 has.1))
