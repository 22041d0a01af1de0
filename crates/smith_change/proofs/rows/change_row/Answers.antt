use Rattle.std.proofs.Common.{ap, map, refl, subst, sym, ◌∙◌}
use Rattle.std.specs.Option.{IsSome, option_map}
use Rattle.smith_change.proofs.InRow.{after_these, moved_end, moved_here, moved_step, seek_end, seek_fails, seek_here, seek_start, seek_step}
use Rattle.smith_change.proofs.RowsOf.{list_row}
use Rattle.smith_change.proofs.rows.change_row.Goals as goal
use Rattle.smith_format.proofs.Results.{ok_then}

pub returns-then-step-clause-entries : goal.returns-then-step-clause-entries
returns-then-step-clause-entries g c =
    let row = list_row g.T.Entry.shown g.T.Entry.places g.T.Entry.changes g.T.Entry.again c.args.change.alternative in
    ok_then _ _ c.change_entry.result
    (λ r e. seek_here row c.loop-index.search c.args.entries.now c.loop-index.index c.index-entries-index.result c.loop-index-test.true
    c.index-entries-index.is (λ v. v.items) c.loop-index.done.items r _ (sym c.step.ensures.here ∙ c.if-step.true) e c.loop-index.invariant.entries)
    c.change_entry.ensures

pub loop-index-preserved : goal.loop-index-preserved
loop-index-preserved g c =
    let row = list_row g.T.Entry.shown g.T.Entry.places g.T.Entry.changes g.T.Entry.again c.args.change.alternative in
    let found = sym (ap (option_map g.T.Entry.shown) c.in-Some.is) ∙ c.in_ok-entry.ensures.entry in
    let moved = c.in_ok-entry.ensures.moved (subst IsSome (sym c.in-Some.is) refl) in
    record {
      entries = seek_step row c.loop-index.search c.args.entries.now c.loop-index.index c.index-entries-index.result c.loop-index-test.true
          c.index-entries-index.is c.step.new.self c.changed.new.search c.loop-index.done.items c.push.new.self.items c.in-Some.entry _
          (sym c.step.ensures.here ∙ c.if-step.false) c.step.ensures.moved found moved c.in_ok-push.ensures.items c.loop-index.invariant.entries;
      moved = moved_step row c.loop-index.search c.args.entries.now c.loop-index.index c.index-entries-index.result c.loop-index-test.true
          c.index-entries-index.is c.step.new.self c.changed.new.search _ c.step.ensures.moved moved c.loop-index.invariant.moved;
    }

pub returns-clause-entries : goal.returns-clause-entries
returns-clause-entries g c =
    let row = list_row g.T.Entry.shown g.T.Entry.places g.T.Entry.changes g.T.Entry.again c.args.change.alternative in
    seek_end row c.loop-index.search c.args.entries.now c.loop-index.index (map g.T.Entry.shown c.loop-index.done.items) _ c.loop-index-test.false
    c.loop-index.invariant.entries

pub loop-index-init : goal.loop-index-init
loop-index-init g c =
    let row = list_row g.T.Entry.shown g.T.Entry.places g.T.Entry.changes g.T.Entry.again c.args.change.alternative in
    let all = map g.T.Entry.shown c.args.entries.now in
    record {
      entries = ap (λ done. after_these row (map g.T.Entry.shown done) c.args.search.now all) c.new-done.ensures.items ∙ seek_start row c.args.search.now all;
      moved = refl;
    }

pub returns-then-step-clause-moved : goal.returns-then-step-clause-moved
returns-then-step-clause-moved g c =
    let row = list_row g.T.Entry.shown g.T.Entry.places g.T.Entry.changes g.T.Entry.again c.args.change.alternative in
    ok_then _ _ c.change_entry.result
    (λ r e is. moved_here row c.loop-index.search c.args.entries.now c.loop-index.index c.index-entries-index.result c.loop-index-test.true
    c.index-entries-index.is c.step.new.self _ (sym c.step.ensures.here ∙ c.if-step.true) c.step.ensures.moved c.loop-index.invariant.moved)
    c.change_entry.ensures

pub returns-in_default-clause-entries : goal.returns-in_default-clause-entries
returns-in_default-clause-entries g c =
    let row = list_row g.T.Entry.shown g.T.Entry.places g.T.Entry.changes g.T.Entry.again c.args.change.alternative in
    let found = sym (ap (option_map g.T.Entry.shown) c.in_default.is) ∙ c.in_ok-entry.ensures.entry in
    seek_fails row c.loop-index.search c.args.entries.now c.loop-index.index c.index-entries-index.result c.loop-index-test.true
    c.index-entries-index.is c.step.new.self c.loop-index.done.items _ (sym c.step.ensures.here ∙ c.if-step.false) c.step.ensures.moved found
    c.loop-index.invariant.entries

pub returns-in_default-clause-moved : goal.returns-in_default-clause-moved
returns-in_default-clause-moved g c = λ is. absurd cc

pub returns-clause-moved : goal.returns-clause-moved
returns-clause-moved g c = λ is.
    moved_end (list_row g.T.Entry.shown g.T.Entry.places g.T.Entry.changes g.T.Entry.again c.args.change.alternative) c.loop-index.search c.args.entries.now
    c.loop-index.index _ c.loop-index-test.false c.loop-index.invariant.moved
