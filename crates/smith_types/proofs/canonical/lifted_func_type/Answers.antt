use Rattle.smith_format.specs.Shown.{shown_func}
use Rattle.smith_types.proofs.Lifting.{all_lifted}
use Rattle.smith_types.proofs.canonical.lifted_func_type.Goals as goal

pub returns-clause-reads : goal.returns-clause-reads
returns-clause-reads c =
    all_lifted (shown_func c.args.core.now) _ _ _ _ _ _ _ c.deref.ensures.value c.requires.liftable.one c.index.ensures c.in_ok-params.ensures.reads
    c.lifted_primitive-result.ensures.reads
