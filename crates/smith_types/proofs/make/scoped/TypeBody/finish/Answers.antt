use Rattle.smith_syntax.proofs.Shown.{full_component, full_instance}
use Rattle.smith_types.proofs.make.scoped.TypeBody.finish.Goals as goal

pub returns-in-Component : goal.returns-in-Component
returns-in-Component c = rw c.in-Component.is (full_component _)

pub returns-in-Instance : goal.returns-in-Instance
returns-in-Instance c = rw c.in-Instance.is (full_instance _)
