use Rattle.smith_validate.proofs.Deferring.{adds_equal}
use Rattle.smith_validate.proofs.exposure.Exposure.add_use.Goals as goal

pub returns-in-Instance : goal.returns-in-Instance
returns-in-Instance c = rw (c.in-Instance.is) c.add.ensures

pub returns-in-Equal : goal.returns-in-Equal
returns-in-Equal c = rw (c.in-Equal.is) (adds_equal c.args.self.now c.in-Equal.field-0)
