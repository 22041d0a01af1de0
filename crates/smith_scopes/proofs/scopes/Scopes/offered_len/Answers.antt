use Rattle.std.proofs.Common.{◌∙◌, arith}
use Rattle.smith_syntax.specs.Shown.{shown_core, shown_type}
use Rattle.smith_scope.proofs.Offered.{length-offered}
use Rattle.smith_scopes.proofs.scopes.Scopes.offered_len.Goals as goal

pub returns-clause-few : goal.returns-clause-few
returns-clause-few c =
    omega (
      arith,
      c.offered_len.ensures,
      length-offered shown_type shown_core c.last.result.now c.args.offer,
      c.last.ensures.few,
    )
