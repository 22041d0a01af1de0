use Rattle.std.proofs.Common.{◌≡◌, ◌++◌, drop, map}
use Rattle.smith_edit.proofs.simpler.copies.copy_all.Given as goal

abbrev pub invariant-loop-item : goal.invariant-loop-item
invariant-loop-item g l =
    map g.T.Row.shown l.copies.items ++ map g.T.Row.shown (drop l.item-index l.items) ≡ map g.T.Row.shown l.items
