use Rattle.std.proofs.Common.{◌∷◌, [], ap, ◌∙◌, length, length-append}
use Rattle.std.proofs.lemmas.Result.{on_ok_weaker}
use Rattle.smith_syntax.specs.Marked.{empty_marked}
use Rattle.smith_scopes.proofs.Plain.{both_on}
use Rattle.smith_scopes.specs.Scopes.{last_of}
use Rattle.smith_scopes.proofs.Stack.{opened_own}
use Rattle.smith_types.proofs.Declaring.{opened_around}
use Rattle.smith_types.proofs.make.scoped.open_inner.Goals as goal

pub returns-clause-ok : goal.returns-clause-ok
returns-clause-ok c =
    let old = c.args.scopes.now in
    let keeps = (last_of old).keeps in
    on_ok_weaker c.open_scope.result (λ both. record {
      opened = both.0;
      deep = both.1;
      depth = ap length both.0 ∙ length-append old (empty_marked keeps ∷ []);
      fresh = opened_own old c.open_scope.new.self both.0;
      around = opened_around old c.open_scope.new.self keeps both.0 both.1;
    })
    (both_on _ _ c.open_scope.result c.open_scope.ensures.ok c.open_scope.ensures.deep)
