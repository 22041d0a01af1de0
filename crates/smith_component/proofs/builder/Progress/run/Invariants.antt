use Rattle.std.proofs.Common.{◌≡◌}
use Rattle.smith_input.specs.Reading.{IsTail}
use Rattle.smith_format.specs.Consistency.{IsConsistent}
use Rattle.smith_component.specs.BuilderView.{stack_of, IsSound}
use Rattle.smith_component.specs.Runs.{todo}
use Rattle.smith_component.proofs.RunsTo.{Reached}
use Rattle.smith_component.proofs.builder.Progress.run.Given as goal

abbrev pub invariant-loop-done : goal.invariant-loop-done
invariant-loop-done l = record {
  config : l.self.config ≡ l.fn.self.config;
  consistent : IsConsistent l.fn.self.config;
  sound : IsSound l.self;
  tail : IsTail l.u l.fn.u;
  reached : Reached l.fn.self.config l.fn.u (stack_of l.self) l.u;
}

abbrev pub decreases-loop-done : goal.decreases-loop-done
decreases-loop-done l = todo l.fn.self.config l.u (stack_of l.self)
