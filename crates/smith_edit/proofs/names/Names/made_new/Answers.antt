use Rattle.std.proofs.Common.{arith}
use Rattle.smith_edit.proofs.NewNames.{made_more, made_there}
use Rattle.smith_edit.proofs.names.Names.made_new.Goals as goal

pub loop-time-preserved : goal.loop-time-preserved
loop-time-preserved c = grind (arith, made_more)

pub returns-then-not-contains : goal.returns-then-not-contains
returns-then-not-contains c = grind (arith, made_there)
