use Rattle.std.proofs.Common.{arith}
use Rattle.smith_input.proofs.NameSets.{gains, unique_in_set}
use Rattle.smith_input.proofs.NewNames.{unique_scripted}
use Rattle.smith_input.proofs.names.unique_kebab_string.Goals as goal

pub returns-clause-read : goal.returns-clause-read
returns-clause-read c =
    let r = c.in_ok-name.ensures.read in
    (r.text, r.reads, unique_in_set c.args.names.now _ _ r.unique)

pub returns-clause-gained : goal.returns-clause-gained
returns-clause-gained c =
    let r = c.in_ok-name.ensures.read in
    gains c.in_ok-clone.field-0 c.in_ok-clone.ensures.cases (unique_in_set _ _ _ r.unique).is_new c.in_ok-insert.ensures.updates
    c.in_ok-insert.ensures.added c.in_ok-insert.ensures.len

pub returns-clause-script : goal.returns-clause-script
returns-clause-script c name rest k short new e =
    let r = c.in_ok-name.ensures.read in
    unique_scripted _ _ _ _ _ _ _ name rest (omega arith) k short new e r.reads (unique_in_set c.args.names.now _ _ r.unique)
