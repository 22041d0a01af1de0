use Rattle.smith_component.proofs.RunsReadable.{runs_come}
use Rattle.smith_component.proofs.laws.runs_are_sound.Goals as goal

pub returns : goal.returns
returns c = runs_come
