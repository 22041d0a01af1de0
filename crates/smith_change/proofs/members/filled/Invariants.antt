use Rattle.std.proofs.Common.{◌≡◌, ◌++◌, ◌-◌, ℕ, map}
use Rattle.smith_change.specs.Rows.{AreNew, new_members}
use Rattle.smith_change.proofs.members.filled.Given as goal

abbrev pub invariant-loop-number : goal.invariant-loop-number
invariant-loop-number g l =
    (new : ℕ → g.T.Entry.Shown) → AreNew g.T.Entry.fresh new
    → map g.T.Entry.shown l.all.items ++ new_members new l.number (l.number-end - l.number)
    ≡ map g.T.Entry.shown l.items ++ new_members new 0 l.number-end
