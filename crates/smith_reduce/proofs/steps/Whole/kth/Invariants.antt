use Rattle.std.proofs.Common.{◌≤◌}
use Rattle.smith_read.specs.PartNodes.{shown_tree}
use Rattle.smith_reduce.specs.Smaller.{HowMany, Leads, steps}
use Rattle.smith_reduce.specs.Wanted.{IsWanted}
use Rattle.smith_reduce.proofs.steps.Whole.kth.Given as goal

-- Of the steps before this one, as many lead to a wanted component as were found.
abbrev pub invariant-loop-found : goal.invariant-loop-found
invariant-loop-found l = let t = shown_tree l.self.component.now in HowMany (Leads (IsWanted l.self.wanted) t) l.from l._found × (l.from ≤ steps t)
