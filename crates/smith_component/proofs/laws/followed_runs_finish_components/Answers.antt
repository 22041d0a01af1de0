use Rattle.smith_component.proofs.RunsFinishable.{runs_finish}
use Rattle.smith_component.proofs.laws.followed_runs_finish_components.Goals as goal

pub returns : goal.returns
returns c = runs_finish
