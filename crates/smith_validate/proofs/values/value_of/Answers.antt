use Rattle.std.proofs.Common.{arith, ◌∙◌}
use Rattle.smith_validate.proofs.ScopeSteps.{size_found, size_missing}
use Rattle.smith_validate.proofs.Valued.{value_found, value_missing}
use Rattle.smith_validate.proofs.values.value_of.Goals as goal

pub returns-in-Some-clause-size : goal.returns-in-Some-clause-size
returns-in-Some-clause-size c = grind (arith, size_found)

pub returns-in-None-clause-size : goal.returns-in-None-clause-size
returns-in-None-clause-size c = grind (arith, size_missing)

pub returns-in-Some-clause-needs : goal.returns-in-Some-clause-needs
returns-in-Some-clause-needs c = λ types names table are.
    rw (c.in-Indexed.is) (value_found table names c.args.scope.now.types.items types c.in-Indexed.index are c.in-Some.facts c.in-Some.ensures.facts)

pub returns-in-None-clause-needs : goal.returns-in-None-clause-needs
returns-in-None-clause-needs c = λ types names table are.
    rw (c.in-Indexed.is) (value_missing table names c.args.scope.now.types.items types c.in-Indexed.index are _ c.in-None.ensures.facts)
