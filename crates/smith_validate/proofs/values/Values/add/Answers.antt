use Rattle.smith_validate.proofs.Valued.{covers_value}
use Rattle.smith_validate.proofs.values.Values.add.Goals as goal

pub returns-clause-needs : goal.returns-clause-needs
returns-clause-needs c = λ types names table before are h.
    rw (c.with.ensures)
    (covers_value types names c.args.self.needs c.value_of-size.result.0 before c.args.ty h (c.value_of-size.ensures.needs types names table are))
