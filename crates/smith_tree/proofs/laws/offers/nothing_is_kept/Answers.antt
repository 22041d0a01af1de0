use Rattle.smith_tree.proofs.Unmarked.{empty_keeps_nothing, nothing_after, nothing_in}
use Rattle.smith_tree.proofs.laws.offers.nothing_is_kept.Goals as goal

pub returns-clause-components : goal.returns-clause-components
returns-clause-components c config outer inner off = nothing_in config outer inner off

pub returns-clause-opened : goal.returns-clause-opened
returns-clause-opened c own nothing = empty_keeps_nothing own.keeps nothing.keeps

pub returns-clause-declared : goal.returns-clause-declared
returns-clause-declared c d outer own nothing = nothing_after d outer own nothing
