use Rattle.std.proofs.Common.{◌≡◌, ◌+◌, ap, drop, map, sym, ◌∙◌}
use Rattle.smith_change.specs.Rows.{row_places}
use Rattle.smith_change.proofs.KindFound.{here_step, inside_step, later_step}
use Rattle.smith_change.proofs.kinds.kind_in_row.Goals as goal
use Rattle.smith_input.proofs.Lists.{map_drop}

pub returns-then-step-clause-found : goal.returns-then-step-clause-found
returns-then-step-clause-found g c =
    let i = c.loop-entry.entry-index in
    let x = c.entry-item.result in
    let here = row_places g.T.Places.places (map g.T.Places.shown (drop i c.args.entries.now)) in
    let rest = row_places g.T.Places.places (map g.T.Places.shown (drop (i + 1) c.args.entries.now)) in
    let all : here ≡ 1 + (g.T.Places.places (g.T.Places.shown x) + rest) =
    ap (λ es. row_places g.T.Places.places es) (map_drop g.T.Places.shown c.args.entries.now i x c.loop-entry-test.true c.entry-item.is) in
    (here_step c.loop-entry.search c.step.new.self here (g.T.Places.places (g.T.Places.shown x) + rest) _ _ c.step.ensures.moved
    c.loop-entry.invariant.found c.loop-entry.invariant.moved
    all (sym c.step.ensures.here ∙ c.if-step.true)).0

pub returns-then-step-clause-moved : goal.returns-then-step-clause-moved
returns-then-step-clause-moved g c =
    let i = c.loop-entry.entry-index in
    let x = c.entry-item.result in
    let here = row_places g.T.Places.places (map g.T.Places.shown (drop i c.args.entries.now)) in
    let rest = row_places g.T.Places.places (map g.T.Places.shown (drop (i + 1) c.args.entries.now)) in
    let all : here ≡ 1 + (g.T.Places.places (g.T.Places.shown x) + rest) =
    ap (λ es. row_places g.T.Places.places es) (map_drop g.T.Places.shown c.args.entries.now i x c.loop-entry-test.true c.entry-item.is) in
    (here_step c.loop-entry.search c.step.new.self here (g.T.Places.places (g.T.Places.shown x) + rest) _ _ c.step.ensures.moved
    c.loop-entry.invariant.found c.loop-entry.invariant.moved
    all (sym c.step.ensures.here ∙ c.if-step.true)).1

pub returns-then-is_some-clause-found : goal.returns-then-is_some-clause-found
returns-then-is_some-clause-found g c =
    let i = c.loop-entry.entry-index in
    let x = c.entry-item.result in
    let here = row_places g.T.Places.places (map g.T.Places.shown (drop i c.args.entries.now)) in
    let rest = row_places g.T.Places.places (map g.T.Places.shown (drop (i + 1) c.args.entries.now)) in
    let all : here ≡ 1 + (g.T.Places.places (g.T.Places.shown x) + rest) =
    ap (λ es. row_places g.T.Places.places es) (map_drop g.T.Places.shown c.args.entries.now i x c.loop-entry-test.true c.entry-item.is) in
    let yes = sym c.is_some.ensures ∙ c.if-is_some.true in
    yes ∙ (inside_step c.loop-entry.search c.step.new.self here rest _ _ c.step.ensures.moved
    c.loop-entry.invariant.found c.loop-entry.invariant.moved (g.T.Places.places (g.T.Places.shown x))
    all (sym c.step.ensures.here ∙ c.if-step.false) c.kind_at-kind.new.search c.kind_at-kind.ensures.moved (sym c.kind_at-kind.ensures.found ∙ yes)).0

pub returns-then-is_some-clause-moved : goal.returns-then-is_some-clause-moved
returns-then-is_some-clause-moved g c =
    let i = c.loop-entry.entry-index in
    let x = c.entry-item.result in
    let here = row_places g.T.Places.places (map g.T.Places.shown (drop i c.args.entries.now)) in
    let rest = row_places g.T.Places.places (map g.T.Places.shown (drop (i + 1) c.args.entries.now)) in
    let all : here ≡ 1 + (g.T.Places.places (g.T.Places.shown x) + rest) =
    ap (λ es. row_places g.T.Places.places es) (map_drop g.T.Places.shown c.args.entries.now i x c.loop-entry-test.true c.entry-item.is) in
    let yes = sym c.is_some.ensures ∙ c.if-is_some.true in
    (inside_step c.loop-entry.search c.step.new.self here rest _ _ c.step.ensures.moved
    c.loop-entry.invariant.found c.loop-entry.invariant.moved (g.T.Places.places (g.T.Places.shown x))
    all (sym c.step.ensures.here ∙ c.if-step.false) c.kind_at-kind.new.search c.kind_at-kind.ensures.moved (sym c.kind_at-kind.ensures.found ∙ yes)).1

pub loop-entry-preserved : goal.loop-entry-preserved
loop-entry-preserved g c =
    let i = c.loop-entry.entry-index in
    let x = c.entry-item.result in
    let here = row_places g.T.Places.places (map g.T.Places.shown (drop i c.args.entries.now)) in
    let rest = row_places g.T.Places.places (map g.T.Places.shown (drop (i + 1) c.args.entries.now)) in
    let all : here ≡ 1 + (g.T.Places.places (g.T.Places.shown x) + rest) =
    ap (λ es. row_places g.T.Places.places es) (map_drop g.T.Places.shown c.args.entries.now i x c.loop-entry-test.true c.entry-item.is) in
    let no = sym c.is_some.ensures ∙ c.if-is_some.false in
    let next = later_step c.loop-entry.search c.step.new.self here rest _ _ c.step.ensures.moved
    c.loop-entry.invariant.found c.loop-entry.invariant.moved (g.T.Places.places (g.T.Places.shown x))
    all (sym c.step.ensures.here ∙ c.if-step.false) c.kind_at-kind.new.search c.kind_at-kind.ensures.moved (sym c.kind_at-kind.ensures.found ∙ no) in
    record { found = next.0; moved = next.1 }
