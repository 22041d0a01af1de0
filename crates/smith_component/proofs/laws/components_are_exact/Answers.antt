use Rattle.smith_component.proofs.Plans.{exact}
use Rattle.smith_component.proofs.laws.components_are_exact.Goals as goal

pub returns : goal.returns
returns c = exact
