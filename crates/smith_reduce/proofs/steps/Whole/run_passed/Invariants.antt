use Rattle.std.proofs.Common.{◌+◌, ◌≤◌}
use Rattle.smith_read.specs.PartNodes.{shown_tree}
use Rattle.smith_reduce.specs.Wanted.{ArePassed}
use Rattle.smith_reduce.proofs.steps.Whole.run_passed.Given as goal

abbrev pub invariant-loop-turn : goal.invariant-loop-turn
invariant-loop-turn l = ArePassed l.self.wanted (shown_tree l.self.component.now) l.step (l.step + l.passed) × (l.passed ≤ l.rest)
