use Rattle.std.proofs.Common.{rules}
use Rattle.smith_format.specs.Shown.{shown_func}
use Rattle.smith_verdict.specs.Modules.{IsPlainFunction}
use Rattle.smith_verdict.proofs.Loops.{all_hold, not_all}
use Rattle.smith_verdict.proofs.modules.are_plain_functions.Goals as goal

pub returns-then-not-is_plain_function : goal.returns-then-not-is_plain_function
returns-then-not-is_plain_function c = not_all IsPlainFunction shown_func c.args.types.now c.loop-function.function-index c.function-item.result
    c.loop-function-test.true c.function-item.is c.is_plain_function.result (search rules) c.is_plain_function.ensures c.loop-function.invariant

pub returns : goal.returns
returns c = all_hold IsPlainFunction shown_func c.args.types.now c.loop-function.function-index c.loop-function-test.false c.loop-function.invariant
