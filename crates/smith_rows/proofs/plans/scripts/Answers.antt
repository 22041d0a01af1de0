use Rattle.std.proofs.Common.{refl}
use Rattle.smith_input.specs.Script.{pick}
use Rattle.smith_rows.proofs.plans.scripts.Goals as goal

pub returns-clause-second : goal.returns-clause-second
unfolding pick
returns-clause-second c = refl

pub returns-clause-lift : goal.returns-clause-lift
unfolding pick
returns-clause-lift c = refl

pub returns-clause-lower : goal.returns-clause-lower
unfolding pick
returns-clause-lower c = refl

pub returns-clause-exported : goal.returns-clause-exported
unfolding pick
returns-clause-exported c = refl

pub returns-clause-nested : goal.returns-clause-nested
unfolding pick
returns-clause-nested c = refl

pub returns-clause-scoped : goal.returns-clause-scoped
unfolding pick
returns-clause-scoped c = refl
