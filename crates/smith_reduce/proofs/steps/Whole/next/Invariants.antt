use Rattle.std.proofs.Common.{◌-◌, ◌≤◌}
use Rattle.smith_read.specs.PartNodes.{shown_tree}
use Rattle.smith_reduce.specs.Wanted.{ArePassed}
use Rattle.smith_reduce.proofs.steps.Whole.next.Given as goal

-- None of the steps before this one, from the first one that is asked for on, leads to a wanted component.
abbrev pub invariant-loop-number : goal.invariant-loop-number
invariant-loop-number l = ArePassed l.self.wanted (shown_tree l.self.component.now) l.from l.number × (l.from ≤ l.number)

abbrev pub decreases-loop-number : goal.decreases-loop-number
decreases-loop-number l = l.steps - l.number
