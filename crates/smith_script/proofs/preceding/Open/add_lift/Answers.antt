use Rattle.std.proofs.Common.{ap, ◌∙◌}
use Rattle.smith_script.specs.Preceding.{Preceding, preceding, with_function}
use Rattle.smith_script.proofs.preceding.Open.add_lift.Goals as goal

pub returns-clause-added : goal.returns-clause-added
returns-clause-added c own outer =
    let one = (c.in_ok-self.ensures {u = tt}).more in
    (λ i. record (preceding own c.add_function.new.self) { totals = record c.add_function.new.self.totals { funcs = one i } })
    ∙ ap (λ (s : Preceding). record s { totals = with_function s.totals }) ((c.in_ok-add_function.ensures {u = tt}).added own)
