use Rattle.smith_change.proofs.Copied.{copied_one}
use Rattle.smith_change.proofs.rows.copied_behind.Goals as goal

pub returns : goal.returns
returns g c =
    copied_one g.T.Entry.shown c.args.done.items c.push.new.self.items c.args.entry.now c.in_ok-copied.field-0 (c.in_ok-copied.ensures {u = tt})
    (c.in_ok-push.ensures {u = tt}).items
