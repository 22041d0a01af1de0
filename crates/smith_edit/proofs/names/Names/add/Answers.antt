use Rattle.smith_edit.proofs.NewNames.{knows_more, set_gains}
use Rattle.smith_edit.proofs.names.Names.add.Goals as goal

pub returns : goal.returns
returns c = λ names known.
    knows_more _ _ names _ known (set_gains c.in_ok-from_str.field-0 _ _ _ c.in_ok-from_str.ensures.ok c.in_ok-insert.ensures.updates) c.in_ok-count.ensures
