use Rattle.smith_syntax.specs.Grammar.{import_entry}
use Rattle.smith_read.specs.PartNodes.{shown_import_node}
use Rattle.smith_read.proofs.TellingParts.{tells_import}
use Rattle.smith_print.proofs.passing.ImportNodePassed.pass.Goals as goal

pub returns : goal.returns
returns c = c.pass_read.ensures import_entry (shown_import_node c.args.self.now) tells_import
