use Rattle.std.proofs.Common.{arith}
use Rattle.smith_edit.proofs.Nested.{simplified_beyond, still_ahead}
use Rattle.smith_edit.proofs.simpler.simplified.Goals as goal

pub returns-in-Ahead : goal.returns-in-Ahead
returns-in-Ahead c = grind (arith, simplified_beyond, still_ahead)
