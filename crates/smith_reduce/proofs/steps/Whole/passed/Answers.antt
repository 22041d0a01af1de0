use Rattle.std.proofs.Common.{◌≡◌, ◌+◌, ◌-◌, arith}
use Rattle.smith_reduce.proofs.steps.Whole.passed.Goals as goal

pub returns : goal.returns
returns c =
    let items = c.args.self.now.items in
    let is : items + (c.args.step - items) ≡ c.args.step = omega (arith, c.if-step-self.false) in
    rw is at c.simpler_passed.ensures
