use Rattle.std.proofs.Common.{subst, sym}
use Rattle.smith_validate.specs.Parts.{IsNew}
use Rattle.smith_validate.proofs.Standing.{root_stands}
use Rattle.smith_validate.proofs.check.Check.new.Goals as goal

pub returns : goal.returns
returns c =
    let k = c.new.ensures in
    root_stands _ k.own k.types k.outer k.instances (subst IsNew (sym c.new-3.ensures.own) c.new-2.ensures) c.new-3.ensures.outer
