use Rattle.smith_scopes.specs.NodeScopes.{own_in}
use Rattle.smith_tree.specs.Shown.{shown_export}
use Rattle.smith_check.proofs.Judging.{on_both}
use Rattle.smith_check.proofs.Stepping.{export_added}
use Rattle.smith_check.proofs.check.Check.check_export.Goals as goal

pub returns-clause-passed : goal.returns-clause-passed
returns-clause-passed c = λ at k.
    on_both c.check_export.result
    (λ spaces e. export_added c.args.self.now at k c.check_export.new.here (shown_export c.args.export.now) c.check_export.ensures.imports spaces e)
    (c.check_export.ensures.added (own_in c.args.self.now.scopes)) (c.check_export.ensures.known at.here.exports k.here.exports)
