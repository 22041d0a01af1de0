use Rattle.smith_component.proofs.Wider.{finishable_wider, generated_wider}
use Rattle.smith_component.proofs.laws.wider_limits_generate_no_less.Goals as goal

pub returns-clause-generated : goal.returns-clause-generated
returns-clause-generated c wide narrow tree wider image = generated_wider wider tree image

pub returns-clause-finished : goal.returns-clause-finished
returns-clause-finished c wide narrow tree fewer finishable = finishable_wider wide narrow tree fewer finishable

pub returns-clause-plans : goal.returns-clause-plans
returns-clause-plans c wide narrow plan wider fewer within = record {
  possible = generated_wider wider plan within.possible;
  finishable = finishable_wider wide narrow plan fewer within.finishable;
  spelled = within.spelled;
}
