use Rattle.std.proofs.Common.{subst, sym}
use Rattle.smith_validate.specs.Parts.{IsNew}
use Rattle.smith_validate.proofs.Standing.{enter_goes}
use Rattle.smith_validate.proofs.check.Check.enter.Goals as goal

pub returns : goal.returns
returns c =
    let counted = c.in_ok-add_component.ensures {u = tt} in
    let entered = c.in_ok-enter.ensures {u = tt} in
    let opened = c.in_ok-enter-2.ensures {u = tt} in
    enter_goes c.args.self.now _ c.add_component.new.self entered.own entered.types entered.outer entered.instances
    (subst IsNew (sym opened.own) c.new.ensures) opened.outer counted.added counted.judged
