use Rattle.smith_syntax.specs.Grammar.{core_entry}
use Rattle.smith_read.specs.Nodes.{shown_core_node}
use Rattle.smith_read.proofs.TellingCore.{tells_core_entry}
use Rattle.smith_print.proofs.passing.CoreNodePassed.pass.Goals as goal

pub returns : goal.returns
returns c = c.pass_read.ensures core_entry (shown_core_node c.args.self.now) tells_core_entry
