use Rattle.smith_component.proofs.Ended.{exact, generated, open_but_last}
use Rattle.smith_component.proofs.laws.components_of_inputs_that_end_are_exact.Goals as goal

pub returns-clause-exact : goal.returns-clause-exact
returns-clause-exact c = exact

pub returns-clause-generated : goal.returns-clause-generated
returns-clause-generated c = generated

pub returns-clause-but_last : goal.returns-clause-but_last
returns-clause-but_last c = open_but_last
