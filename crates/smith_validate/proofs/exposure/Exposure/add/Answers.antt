use Rattle.smith_validate.specs.declared.exposure.Exposure.{Exposure}
use Rattle.smith_validate.proofs.Deferring.{adds_new}
use Rattle.smith_validate.proofs.exposure.Exposure.add.Goals as goal

pub returns-in_ok-push : goal.returns-in_ok-push
returns-in_ok-push c =
    let new : Exposure = record { exposed = c.name.new.self; later = c.push.new.self } in
    adds_new c.args.self.now new c.args.number (c.in_ok-name.ensures {u = tt}).gains (c.in_ok-push.ensures {u = tt}).items
