use Rattle.smith_input.proofs.NameSets.{gains, unique_in_set}
use Rattle.smith_input.proofs.names.unique_string.Goals as goal

pub returns-clause-read : goal.returns-clause-read
returns-clause-read c =
    let r = c.in_ok-name.ensures.read in
    (r.text, r.reads, unique_in_set c.args.names.now _ _ r.unique)

pub returns-clause-gained : goal.returns-clause-gained
returns-clause-gained c =
    let r = c.in_ok-name.ensures.read in
    gains c.in_ok-clone.field-0 c.in_ok-clone.ensures.cases (unique_in_set _ _ _ r.unique).is_new c.in_ok-insert.ensures.updates
    c.in_ok-insert.ensures.added c.in_ok-insert.ensures.len
