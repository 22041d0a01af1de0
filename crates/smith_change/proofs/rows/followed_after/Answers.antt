use Rattle.std.proofs.Common.{ap, map, refl, sym, ◌∙◌}
use Rattle.std.specs.Option.{option_map}
use Rattle.smith_change.proofs.Copied.{copied_one, followed_by, none_empty, not_followed}
use Rattle.smith_change.proofs.rows.followed_after.Goals as goal

pub returns-then-is_empty : goal.returns-then-is_empty
returns-then-is_empty g c =
    none_empty g.T.Entry.shown g.T.Entry.again (map g.T.Entry.shown c.args.done.items) 3 c.args.entries.now (sym c.is_empty.ensures ∙ c.if-is_empty.true)

pub returns-in_default : goal.returns-in_default
returns-in_default g c =
    not_followed g.T.Entry.shown g.T.Entry.again (map g.T.Entry.shown c.args.done.items) c.args.entries.now c.index-entries-0.result c.index-entries-0.is
    (sym (ap (option_map g.T.Entry.shown) c.in_default.is) ∙ c.in_ok-again.ensures {u = tt})

pub returns : goal.returns
returns g c =
    followed_by g.T.Entry.shown g.T.Entry.again (map g.T.Entry.shown c.args.done.items) _ _ _ c.args.entries.now c.index-entries-0.result
    c.index-entries-0-2.result _ (sym c.is_empty.ensures ∙ c.if-is_empty.false) c.index-entries-0.is c.index-entries-0-2.is
    (sym (ap (option_map g.T.Entry.shown) c.in-Some.is) ∙ c.in_ok-again.ensures {u = tt}) (c.in_ok-done.ensures {u = tt})
    (copied_one g.T.Entry.shown c.in_ok-done.done.items c.push.new.self.items c.in-Some.again c.in-Some.again refl (c.in_ok-push.ensures {u = tt}).items)
    (c.in_ok-copied_after.ensures {u = tt})
