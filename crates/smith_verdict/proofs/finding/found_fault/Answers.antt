use Rattle.smith_verdict.specs.declared.answers.Outside.TheVariants as outside
use Rattle.smith_verdict.proofs.Answering.{fault_outside}
use Rattle.smith_verdict.proofs.finding.found_fault.Goals as goal

pub returns-in-Lupinanon : goal.returns-in-Lupinanon
returns-in-Lupinanon c = λ t a. fault_outside t c.args.fault (outside.Rule c.args.fault.rule) a
