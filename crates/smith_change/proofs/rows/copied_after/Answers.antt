use Rattle.std.proofs.Common.{refl}
use Rattle.smith_change.proofs.Copied.{copied_end, copied_next}
use Rattle.smith_change.proofs.rows.copied_after.Goals as goal

pub loop-entry-init : goal.loop-entry-init
loop-entry-init g c = refl

pub loop-entry-preserved : goal.loop-entry-preserved
loop-entry-preserved g c =
    copied_next g.T.Entry.shown c.loop-entry.all.items c.push.new.self.items c.args.entries.now c.loop-entry.entry-index c.entry-item.result
    c.in_ok-copied.field-0 _ c.loop-entry-test.true c.entry-item.is (c.in_ok-copied.ensures {u = tt}) (c.in_ok-push.ensures {u = tt}).items
    c.loop-entry.invariant

pub returns : goal.returns
returns g c =
    copied_end g.T.Entry.shown c.loop-entry.all.items c.args.entries.now c.loop-entry.entry-index _ c.loop-entry-test.false c.loop-entry.invariant
