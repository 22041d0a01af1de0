use Rattle.smith_format.specs.Shown.{shown_func}
use Rattle.smith_verdict.specs.Modules.{FewValues}
use Rattle.smith_verdict.proofs.Loops.{Left}
use Rattle.smith_verdict.proofs.modules.have_few_values.Given as goal

abbrev pub invariant-loop-function : goal.invariant-loop-function
invariant-loop-function l = Left (λ n. FewValues (shown_func n)) l.types l.function-index
