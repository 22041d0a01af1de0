use Rattle.std.proofs.Common.{◌<◌}
use Rattle.smith_core.proofs.Tiles.{Passed}
use Rattle.smith_core.proofs.module.agree.globals_are_there.Given as goal

abbrev pub invariant-loop-index : goal.invariant-loop-index
invariant-loop-index l = Passed (λ g. g.0 < l.count) l.defined l.index-index
