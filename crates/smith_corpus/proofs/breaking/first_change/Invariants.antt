use Rattle.smith_read.specs.PartNodes.{shown_tree}
use Rattle.smith_change.proofs.Passing.{ArePassed}
use Rattle.smith_corpus.proofs.breaking.first_change.Given as goal

-- None of the changes before this one leads to anything.
abbrev pub invariant-loop-number : goal.invariant-loop-number
invariant-loop-number l = ArePassed (shown_tree l.tree) 0 l.number
