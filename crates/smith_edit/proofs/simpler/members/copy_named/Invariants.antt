use Rattle.std.proofs.Common.{◌≡◌, ◌++◌, drop, map}
use Rattle.smith_edit.proofs.simpler.members.copy_named.Given as goal

abbrev pub invariant-loop-item : goal.invariant-loop-item
invariant-loop-item g l = map g.T.Named.shown l.copies.items ++ map g.T.Named.shown (drop l.item-index l.items) ≡ map g.T.Named.shown l.items
