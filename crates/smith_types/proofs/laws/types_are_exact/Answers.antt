use Rattle.smith_types.proofs.Exact.{exact}
use Rattle.smith_types.proofs.laws.types_are_exact.Goals as goal

pub returns : goal.returns
returns c config own outer fuel e deep fit few short = exact config own outer fuel e deep fit few short
