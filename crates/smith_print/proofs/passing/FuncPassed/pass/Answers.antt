use Rattle.smith_tree.specs.Grammar.{canon}
use Rattle.smith_tree.specs.Shown.{shown_canon}
use Rattle.smith_read.proofs.TellingEntries.{tells_canon}
use Rattle.smith_print.proofs.passing.FuncPassed.pass.Goals as goal

pub returns : goal.returns
returns c = c.pass_read.ensures canon (shown_canon c.args.self.now) tells_canon
