use Rattle.std.proofs.Common.{◌++◌, ap, map, sym, ◌∙◌}
use Rattle.std.specs.Option.{option_map}
use Rattle.smith_change.specs.Rows.{entry_alternative}
use Rattle.smith_change.proofs.Copied.{by_exchange, doubled, none_empty, without_first}
use Rattle.smith_change.proofs.rows.change_entry.Goals as goal
use Rattle.smith_format.proofs.Results.{ok_then}

pub returns-then-is_empty : goal.returns-then-is_empty
returns-then-is_empty g c =
    none_empty g.T.Entry.shown g.T.Entry.again (map g.T.Entry.shown c.args.done.items) c.args.change.alternative c.args.entries.now
    (sym c.is_empty.ensures ∙ c.if-is_empty.true)

pub returns-in_ok-copied_after-in-0 : goal.returns-in_ok-copied_after-in-0
returns-in_ok-copied_after-in-0 g c =
    let all = map g.T.Entry.shown c.in_ok-copied_after-in-0.field-0.items in
    without_first g.T.Entry.shown g.T.Entry.again (map g.T.Entry.shown c.args.done.items) all c.args.entries.now
    (sym c.is_empty.ensures ∙ c.if-is_empty.false) (c.in_ok-copied_after-in-0.ensures {u = tt})
    ∙ ap (λ a. option_map (λ ys. map g.T.Entry.shown c.args.done.items ++ ys) (entry_alternative g.T.Entry.again a (map g.T.Entry.shown c.args.entries.now)))
    (sym c.in-0.is)

pub returns-in_ok-copied_after-in-1 : goal.returns-in_ok-copied_after-in-1
returns-in_ok-copied_after-in-1 g c =
    let all = map g.T.Entry.shown c.in_ok-copied_after-in-1.field-0.items in
    doubled g.T.Entry.shown g.T.Entry.again (map g.T.Entry.shown c.args.done.items) _ all c.args.entries.now
    c.index-entries-0.result (sym c.is_empty.ensures ∙ c.if-is_empty.false) c.index-entries-0.is (c.in_ok-done-in-1.ensures {u = tt})
    (c.in_ok-copied_after-in-1.ensures {u = tt})
    ∙ ap (λ a. option_map (λ ys. map g.T.Entry.shown c.args.done.items ++ ys) (entry_alternative g.T.Entry.again a (map g.T.Entry.shown c.args.entries.now)))
    (sym c.in-1.is)

pub returns-in-2 : goal.returns-in-2
returns-in-2 g c =
    ok_then _ _ c.exchanged_after.result
    (λ r e. e ∙ by_exchange g.T.Entry.shown g.T.Entry.again (map g.T.Entry.shown c.args.done.items) c.args.entries.now
    ∙ ap (λ a. option_map (λ ys. map g.T.Entry.shown c.args.done.items ++ ys) (entry_alternative g.T.Entry.again a (map g.T.Entry.shown c.args.entries.now)))
    (sym c.in-2.is)) c.exchanged_after.ensures

pub returns-in-3 : goal.returns-in-3
returns-in-3 g c =
    ok_then _ _ c.followed_after.result
    (λ r e. e
    ∙ ap (λ a. option_map (λ ys. map g.T.Entry.shown c.args.done.items ++ ys) (entry_alternative g.T.Entry.again a (map g.T.Entry.shown c.args.entries.now)))
    (sym c.in-3.is)) c.followed_after.ensures
