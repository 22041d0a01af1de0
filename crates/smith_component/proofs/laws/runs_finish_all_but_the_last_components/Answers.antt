use Rattle.smith_component.proofs.RunsButLast.{runs_end}
use Rattle.smith_component.proofs.laws.runs_finish_all_but_the_last_components.Goals as goal

pub returns : goal.returns
returns c = runs_end
