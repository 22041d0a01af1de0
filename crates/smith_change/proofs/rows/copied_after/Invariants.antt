use Rattle.std.proofs.Common.{◌≡◌, ◌++◌, drop, map}
use Rattle.smith_change.proofs.rows.copied_after.Given as goal

abbrev pub invariant-loop-entry : goal.invariant-loop-entry
invariant-loop-entry g l =
    map g.T.Entry.shown l.all.items ++ map g.T.Entry.shown (drop l.entry-index l.entries)
    ≡ map g.T.Entry.shown l.initial.all.items ++ map g.T.Entry.shown l.entries
