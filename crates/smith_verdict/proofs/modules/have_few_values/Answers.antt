use Rattle.std.proofs.Common.{rules}
use Rattle.smith_format.specs.Shown.{shown_func}
use Rattle.smith_verdict.specs.Modules.{FewValues}
use Rattle.smith_verdict.proofs.Loops.{all_hold, not_all}
use Rattle.smith_verdict.proofs.modules.have_few_values.Goals as goal

pub returns-then-not-has_few_values : goal.returns-then-not-has_few_values
returns-then-not-has_few_values c = not_all FewValues shown_func c.args.types.now c.loop-function.function-index c.function-item.result
    c.loop-function-test.true c.function-item.is c.has_few_values.result (search rules) c.has_few_values.ensures c.loop-function.invariant

pub returns : goal.returns
returns c = all_hold FewValues shown_func c.args.types.now c.loop-function.function-index c.loop-function-test.false c.loop-function.invariant
