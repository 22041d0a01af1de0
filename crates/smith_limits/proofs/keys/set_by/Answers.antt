use Rattle.toml.specs.View.{table_view}
use Rattle.smith_limits.proofs.Sets.{bounded}
use Rattle.smith_limits.proofs.keys.set_by.Goals as goal

pub returns-clause-bounded : goal.returns-clause-bounded
returns-clause-bounded c = bounded (table_view c.args.table.now) c.default.result c.set_over.result c.default.ensures c.requires c.set_over.ensures
