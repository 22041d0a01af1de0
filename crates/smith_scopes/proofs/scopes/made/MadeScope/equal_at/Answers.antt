use Rattle.std.proofs.Common.{length, length-append, refl, sym, ap, ◌∙◌, arith}
use Rattle.std.specs.Prelude.{drop, slice_get}
use Rattle.std.proofs.lemmas.Option.{slice_get-get_or}
use Rattle.smith_syntax.specs.HasSignature.{has_signature}
use Rattle.smith_syntax.specs.Marked.{scope_in}
use Rattle.smith_syntax.specs.Places.{places}
use Rattle.smith_scopes.specs.Rows.{values_of}
use Rattle.smith_scopes.specs.Scopes.{equal_places}
use Rattle.smith_scopes.proofs.Rows.{all_and_row, slice_get-append_left, slice_get-append_right}
use Rattle.smith_scopes.proofs.scopes.made.MadeScope.equal_at.Goals as goal

pub later_at-requires-else-k-row-clause-one : goal.later_at-requires-else-k-row-clause-one
later_at-requires-else-k-row-clause-one c =
    let types = c.types-types.result.now in
    let all = ap length (all_and_row types c.self.inside.scope.types c.types-types.ensures c.self.inside.equals c.in-Some.equals c.in-Some.is
    c.self.invariant.equals_are c.deref.result.now c.deref.ensures c.args.func.now c.row-row.result.now c.row-row.ensures c.noted.result
    (c.noted.ensures ∙ ap (λ e. e.noted) c.deref-else-k-row.ensures)) in
    let both = length-append c.row-row.result.now (places (has_signature c.args.func.now) c.noted.result (drop c.noted.result (values_of types))) in
    let view = ap (λ s. length (equal_places c.args.func.now (scope_in s))) c.self.view_is in
    omega (arith, all, both, view, c.requires, c.if-k-row.false)

pub returns-then-k-row : goal.returns-then-k-row
returns-then-k-row c =
    let whole = sym (ap (λ s. equal_places c.args.func.now (scope_in s)) c.self.view_is)
    ∙ all_and_row c.types-types.result.now c.self.inside.scope.types c.types-types.ensures c.self.inside.equals c.in-Some.equals c.in-Some.is
    c.self.invariant.equals_are c.deref.result.now c.deref.ensures c.args.func.now c.row-row.result.now c.row-row.ensures c.in-Some.equals.value.noted refl in
    ap (λ ps. slice_get ps c.args.k) whole
    ∙ slice_get-append_left c.row-row.result.now _ c.args.k c.if-k-row.true
    ∙ slice_get-get_or c.row-row.result.now c.args.k 0 c.if-k-row.true

pub returns-else-k-row : goal.returns-else-k-row
returns-else-k-row c =
    let types = c.types-types.result.now in
    let whole = sym (ap (λ s. equal_places c.args.func.now (scope_in s)) c.self.view_is)
    ∙ all_and_row types c.self.inside.scope.types c.types-types.ensures c.self.inside.equals c.in-Some.equals c.in-Some.is
    c.self.invariant.equals_are c.deref.result.now c.deref.ensures c.args.func.now c.row-row.result.now c.row-row.ensures c.noted.result
    (c.noted.ensures ∙ ap (λ e. e.noted) c.deref-else-k-row.ensures) in
    ap (λ ps. slice_get ps c.args.k) whole
    ∙ slice_get-append_right c.row-row.result.now (places (has_signature c.args.func.now) c.noted.result (drop c.noted.result (values_of types))) c.args.k
    c.if-k-row.false
    ∙ c.later_at-else-k-row.ensures
