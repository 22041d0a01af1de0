use Rattle.std.proofs.Common.{map}
use Rattle.smith_change.proofs.Copied.{none_exchanged, two_exchanged}
use Rattle.smith_change.proofs.rows.exchanged_after.Goals as goal

pub returns-then-entries-lt2 : goal.returns-then-entries-lt2
returns-then-entries-lt2 g c = none_exchanged g.T.Entry.shown (map g.T.Entry.shown c.args.done.items) c.args.entries.now c.if-entries-lt2.true

pub returns : goal.returns
returns g c =
    two_exchanged g.T.Entry.shown (map g.T.Entry.shown c.args.done.items) _ _ _ c.args.entries.now c.index-entries-0.result c.index-entries-1.result
    c.if-entries-lt2.false c.index-entries-1.is c.index-entries-0.is (c.in_ok-done.ensures {u = tt}) (c.in_ok-done-2.ensures {u = tt})
    (c.in_ok-copied_after.ensures {u = tt})
