use Rattle.std.proofs.Common.{◌∙◌}
use Rattle.smith_format.specs.Consistency.{max_u32}
use Rattle.smith_syntax.specs.Marked.{scope_in}
use Rattle.smith_syntax.specs.Shown.{shown_core, shown_type}
use Rattle.smith_scope.proofs.ByKind.{few_of_kind}
use Rattle.smith_scopes.proofs.scopes.Scopes.kind_len.Goals as goal

pub returns-clause-few : goal.returns-clause-few
returns-clause-few c =
    rw (c.places.ensures.places)
    (few_of_kind shown_type shown_core (scope_in c.last.result.now) max_u32 c.last.ensures.few c.last.ensures.few_core c.args.kind)
