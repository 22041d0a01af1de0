use Rattle.smith_read.specs.PartNodes.{shown_tree}
use Rattle.smith_change.proofs.Passing.{ArePassed}
use Rattle.smith_change.proofs.steps.next_of.Given as goal

-- None of the changes before this one, from the first one that is asked for on, leads to anything.
abbrev pub invariant-loop-number : goal.invariant-loop-number
invariant-loop-number l = ArePassed (shown_tree l.tree) l.from l.number
