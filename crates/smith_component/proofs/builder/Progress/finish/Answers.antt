use Rattle.std.proofs.Common.{arith}
use Rattle.smith_component.proofs.Items.{finish_does}
use Rattle.smith_component.proofs.builder.Progress.finish.Goals as goal

pub close-requires : goal.close-requires
close-requires c = grind arith

pub returns-clause-does : goal.returns-clause-does
returns-clause-does c =
    let f = c.in_ok-fill.ensures.fills in
    finish_does c.args.self.now c.fill.new.self c.close.new.self c.args.u.now c.fill.new.u _ f.filled f.grows c.in_ok-close.ensures.closes
