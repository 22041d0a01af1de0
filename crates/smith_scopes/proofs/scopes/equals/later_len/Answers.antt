use Rattle.std.proofs.Common.{◌∙◌, arith}
use Rattle.smith_scopes.proofs.Rows.{later_no, later_yes}
use Rattle.smith_scopes.proofs.scopes.equals.later_len.Goals as goal
use Rattle.smith_scopes.proofs.scopes.equals.later_len.Goals.{else-is_equal, then-is_equal}

pub loop-index-preserved : goal.loop-index-preserved
loop-index-preserved c = grind (arith, then-is_equal, later_yes, else-is_equal, later_no)
