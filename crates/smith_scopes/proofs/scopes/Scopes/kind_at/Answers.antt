use Rattle.std.proofs.Common.{get_or, ap, ◌∙◌, arith}
use Rattle.std.specs.Prelude.{slice_get}
use Rattle.smith_format.specs.Consistency.{max_u32}
use Rattle.smith_syntax.specs.Marked.{scope_in}
use Rattle.smith_syntax.specs.Shown.{shown_core, shown_type}
use Rattle.smith_scopes.specs.Scopes.{kind_places}
use Rattle.smith_scope.proofs.ByKind.{kind_within}
use Rattle.smith_scopes.proofs.Chosen.{found_in_row}
use Rattle.smith_scopes.proofs.scopes.Scopes.kind_at.Goals as goal

pub overflow_cast-result : goal.overflow_cast-result
overflow_cast-result c =
    let row = c.places.result.now in
    let found = found_in_row row _ (c.places.ensures.places ∙ ap (kind_places c.args.kind) c.last.ensures.own) c.args.k c.requires in
    let small =
    kind_within shown_type shown_core (scope_in c.last.result.now) max_u32 c.last.ensures.few c.last.ensures.few_core c.args.kind c.args.k
    (get_or row c.args.k 0) (ap (λ s. slice_get (kind_places c.args.kind s) c.args.k) c.last.ensures.own ∙ found) in
    omega (arith, small)

pub returns-clause-value : goal.returns-clause-value
returns-clause-value c = found_in_row _ _ (c.places.ensures.places ∙ ap (kind_places c.args.kind) c.last.ensures.own) c.args.k c.requires

pub returns-clause-lists : goal.returns-clause-lists
returns-clause-lists c = grind (arith, found_in_row)
