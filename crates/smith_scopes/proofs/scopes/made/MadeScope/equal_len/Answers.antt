use Rattle.std.proofs.Common.{◌≡◌, ◌+◌, ◌∙◌, length, length-append, ap, arith}
use Rattle.std.specs.Prelude.{drop}
use Rattle.smith_syntax.specs.HasSignature.{has_signature}
use Rattle.smith_syntax.specs.Marked.{scope_in}
use Rattle.smith_syntax.specs.Places.{places}
use Rattle.smith_scopes.specs.Rows.{values_of}
use Rattle.smith_scopes.specs.Scopes.{equal_places}
use Rattle.smith_scopes.proofs.Rows.{all_and_row}
use Rattle.smith_scope.proofs.Places.{length-places}
use Rattle.smith_scopes.proofs.scopes.made.MadeScope.equal_len.Goals as goal

counted : (c : goal.After-later_len) → length c.row.result.now + c.later_len.result ≡ length (equal_places c.args.func.now (scope_in c.args.self.now))
counted c =
    let types = c.types-types.result.now in
    let all = ap length (all_and_row types c.self.inside.scope.types c.types-types.ensures c.self.inside.equals c.in-Some.equals c.in-Some.is
    c.self.invariant.equals_are c.deref.result.now c.deref.ensures c.args.func.now c.row.result.now c.row.ensures c.noted.result
    (c.noted.ensures ∙ ap (λ e. e.noted) c.deref-in-Some.ensures)) in
    let both = length-append c.row.result.now (places (has_signature c.args.func.now) c.noted.result (drop c.noted.result (values_of types))) in
    let view = ap (λ s. length (equal_places c.args.func.now (scope_in s))) c.self.view_is in
    omega (arith, all, c.later_len.ensures.count, both, view)

pub returns-in-Some-clause-count : goal.returns-in-Some-clause-count
returns-in-Some-clause-count c = counted c

pub returns-in-Some-clause-few : goal.returns-in-Some-clause-few
returns-in-Some-clause-few c = grind (arith, length-places, counted)
