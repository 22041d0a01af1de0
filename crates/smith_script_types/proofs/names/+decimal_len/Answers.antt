use Rattle.std.proofs.Common.{arith}
use Rattle.smith_script_types.proofs.ReadableTexts.{few_digits}
use Rattle.smith_script_types.proofs.names.+decimal_len.Goals as goal
use Rattle.smith_input.proofs.Digits.{more_digits}

pub returns-clause-few : goal.returns-clause-few
returns-clause-few t c =
    omega (
      arith,
      c.decimal_len.ensures.count,
      more_digits c.args.n (omega (arith, c.if-n-lt10.false)) (omega arith),
      few_digits c.args.n (omega arith),
    )
