use Rattle.std.proofs.Common.{◌+◌, ap, sym, ◌∙◌}
use Rattle.std.proofs.lemmas.List.{map-id}
use Rattle.smith_read.specs.Search.{past}
use Rattle.smith_read.proofs.Seeking.{past_past}
use Rattle.smith_change.specs.CoreTypes.{core_values_places}
use Rattle.smith_change.proofs.KindFound.{among_first, among_later, here_among, is_among, past_first}
use Rattle.smith_change.proofs.placed.CoreFuncPlaces.kind_at.Goals as goal

pub returns-then-is_some-clause-found : goal.returns-then-is_some-clause-found
returns-then-is_some-clause-found c =
    let s = c.args.search.now in
    let n = core_values_places c.args.self.now.params.items in
    let m = 1 + core_values_places c.args.self.now.results.items in
    let params = map-id c.deref.result.now ∙ c.deref.ensures.value in
    let there = ap (λ xs. is_among (core_values_places xs) s) (sym params) ∙ sym c.kind_in_row-kind.ensures.found in
    let yes = sym c.is_some.ensures ∙ c.if-is_some.true in
    yes ∙ sym (among_first n m s (there ∙ yes))

pub returns-then-is_some-clause-moved : goal.returns-then-is_some-clause-moved
returns-then-is_some-clause-moved c =
    let s = c.args.search.now in
    let n = core_values_places c.args.self.now.params.items in
    let m = 1 + core_values_places c.args.self.now.results.items in
    let params = map-id c.deref.result.now ∙ c.deref.ensures.value in
    let there = ap (λ xs. is_among (core_values_places xs) s) (sym params) ∙ sym c.kind_in_row-kind.ensures.found in
    let yes = sym c.is_some.ensures ∙ c.if-is_some.true in
    c.kind_in_row-kind.ensures.moved ∙ ap (λ xs. past (core_values_places xs) s) params ∙ past_first n m s (there ∙ yes)

pub returns-then-step-clause-found : goal.returns-then-step-clause-found
returns-then-step-clause-found c =
    let s = c.args.search.now in
    let u = c.kind_in_row-kind.new.search in
    let n = core_values_places c.args.self.now.params.items in
    let k = core_values_places c.args.self.now.results.items in
    let params = map-id c.deref.result.now ∙ c.deref.ensures.value in
    let there = ap (λ xs. is_among (core_values_places xs) s) (sym params) ∙ sym c.kind_in_row-kind.ensures.found in
    let gone = c.kind_in_row-kind.ensures.moved ∙ ap (λ xs. past (core_values_places xs) s) params in
    let no = sym c.is_some.ensures ∙ c.if-is_some.false in
    sym (among_later n (1 + k) s (there ∙ no) ∙ ap (is_among (1 + k)) (sym gone)
    ∙ among_first 1 k u (sym (here_among u) ∙ (sym c.step.ensures.here ∙ c.if-step.true)))

pub returns-then-step-clause-moved : goal.returns-then-step-clause-moved
returns-then-step-clause-moved c =
    let s = c.args.search.now in
    let u = c.kind_in_row-kind.new.search in
    let n = core_values_places c.args.self.now.params.items in
    let k = core_values_places c.args.self.now.results.items in
    let params = map-id c.deref.result.now ∙ c.deref.ensures.value in
    let gone = c.kind_in_row-kind.ensures.moved ∙ ap (λ xs. past (core_values_places xs) s) params in
    c.step.ensures.moved ∙ past_first 1 k u (sym (here_among u) ∙ (sym c.step.ensures.here ∙ c.if-step.true)) ∙ ap (past (1 + k)) gone
    ∙ past_past (1 + k) n s

pub returns-clause-found : goal.returns-clause-found
returns-clause-found c =
    let s = c.args.search.now in
    let u = c.kind_in_row-kind.new.search in
    let n = core_values_places c.args.self.now.params.items in
    let k = core_values_places c.args.self.now.results.items in
    let params = map-id c.deref.result.now ∙ c.deref.ensures.value in
    let results = map-id c.deref-2.result.now ∙ c.deref-2.ensures.value in
    let there = ap (λ xs. is_among (core_values_places xs) s) (sym params) ∙ sym c.kind_in_row-kind.ensures.found in
    let gone = c.kind_in_row-kind.ensures.moved ∙ ap (λ xs. past (core_values_places xs) s) params in
    let no = sym c.is_some.ensures ∙ c.if-is_some.false in
    c.kind_in_row.ensures.found ∙ ap (λ xs. is_among (core_values_places xs) c.step.new.self) results
    ∙ sym (among_later n (1 + k) s (there ∙ no) ∙ ap (is_among (1 + k)) (sym gone)
    ∙ among_later 1 k u (sym (here_among u) ∙ (sym c.step.ensures.here ∙ c.if-step.false)) ∙ ap (is_among k) (sym c.step.ensures.moved))

pub returns-clause-moved : goal.returns-clause-moved
returns-clause-moved c =
    let s = c.args.search.now in
    let n = core_values_places c.args.self.now.params.items in
    let k = core_values_places c.args.self.now.results.items in
    let params = map-id c.deref.result.now ∙ c.deref.ensures.value in
    let results = map-id c.deref-2.result.now ∙ c.deref-2.ensures.value in
    let gone = c.kind_in_row-kind.ensures.moved ∙ ap (λ xs. past (core_values_places xs) s) params in
    c.kind_in_row.ensures.moved ∙ ap (λ xs. past (core_values_places xs) c.step.new.self) results ∙ ap (past k) c.step.ensures.moved
    ∙ past_past k 1 c.kind_in_row-kind.new.search ∙ ap (past (1 + k)) gone ∙ past_past (1 + k) n s
