use Rattle.std.proofs.Common.{◌∙◌}
use Rattle.smith_input.proofs.NameSets.{set_has}
use Rattle.smith_input.proofs.names.BTreeSetStringTakenNames.has_name.Goals as goal

pub returns : goal.returns
returns c = c.contains.ensures ∙ set_has c.args.self.now c.args.name.now
