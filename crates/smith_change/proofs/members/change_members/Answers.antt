use Rattle.std.proofs.Common.{map, sym, ◌∙◌}
use Rattle.smith_change.specs.Rows.{members_alternative, row_changed, row_places}
use Rattle.smith_change.proofs.Seeking.{sought_here}
use Rattle.smith_change.proofs.members.change_members.Goals as goal
use Rattle.smith_format.proofs.Results.{ok_then}

pub returns-then-step-clause-entries : goal.returns-then-step-clause-entries
returns-then-step-clause-entries g c = λ new are.
    let a = c.args.change.alternative in
    let all = map g.T.Entry.shown c.args.items.now in
    ok_then _ _ c.change_all.result
    (λ r e. e ∙ sym (sought_here (row_places g.T.Entry.places all) (members_alternative c.args.bound new a all)
    (λ j. row_changed g.T.Entry.places g.T.Entry.changes g.T.Entry.again a j all) all c.args.search.now (sym c.step.ensures.here ∙ c.if-step.true)))
    (c.change_all.ensures new are)
