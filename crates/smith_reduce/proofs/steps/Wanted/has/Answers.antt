use Rattle.std.proofs.Common.{Decides, IfOk, subst, sym}
use Rattle.smith_read.specs.PartNodes.{shown_tree}
use Rattle.smith_reduce.specs.Wanted.{IsWanted}
use Rattle.smith_reduce.proofs.steps.Wanted.has.Goals as goal

pub returns-in-Generated : goal.returns-in-Generated
returns-in-Generated c =
    subst (λ w. IfOk c.has_script.result (λ r. Decides r (IsWanted w (shown_tree c.args.component.now)))) (sym c.in-Generated.is) c.has_script.ensures
