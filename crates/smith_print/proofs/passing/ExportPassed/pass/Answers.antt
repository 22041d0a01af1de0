use Rattle.smith_tree.specs.Grammar.{export_entry}
use Rattle.smith_tree.specs.Shown.{shown_export}
use Rattle.smith_read.proofs.TellingEntries.{tells_export}
use Rattle.smith_print.proofs.passing.ExportPassed.pass.Goals as goal

pub returns : goal.returns
returns c = c.pass_read.ensures export_entry (shown_export c.args.self.now) tells_export
