use Rattle.smith_core.proofs.Tiles.{Tiled}
use Rattle.smith_core.proofs.module.agree.groups_tile.Given as goal

abbrev pub invariant-loop-start : goal.invariant-loop-start
invariant-loop-start l = Tiled l.groups l.start-index l.next l.count
