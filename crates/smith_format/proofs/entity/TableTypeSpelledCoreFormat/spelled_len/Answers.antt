use Rattle.std.proofs.Common.{arith, false}
use Rattle.smith_format.proofs.Sizes.{takes_then}
use Rattle.smith_format.proofs.entity.TableTypeSpelledCoreFormat.spelled_len.Goals as goal

pub returns : goal.returns
returns c = (
  takes_then c.ref_len.ensures.length (c.limits_len.ensures.length false c.args.self.now.table64),
  omega (arith, c.ref_len.ensures.most, c.limits_len.ensures.most),
)
