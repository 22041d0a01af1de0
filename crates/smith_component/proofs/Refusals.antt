-- Which refusals follow from which.
use Rattle.std.proofs.Common.{◌≡◌, ℕ, List, refl, subst}
use Rattle.smith_input.specs.Choices.{ReadsAmong}
use Rattle.smith_input.specs.declared.error.Error.{Error}
use Rattle.smith_input.specs.declared.error.Error.TheVariants.{InconsistentLimits, MinimumNotMet, ModuleRefused, TooLong, OutOfMemory, PartsDisagree}
use Rattle.smith_format.specs.Consistency.{IsConsistent}
use Rattle.smith_format.specs.declared.config.Config.{Config}
use Rattle.smith_component.specs.Filling.{CanFill}
use Rattle.smith_tree.specs.Open.{Open, items}
use Rattle.smith_component.specs.Refusals.{IsFillRefusal, IsStepRefusal, LacksOn, RefusesModuleOn, IsRefusal}
use Rattle.smith_component.specs.Turn.{LacksAt, RefusesModuleAt}
use Rattle.smith_tree.specs.declared.choices.Item.TheVariants.{Finish}
use Rattle.smith_component.specs.Tables.{IsGrounded}
use Rattle.smith_component.specs.Sound.{Sound}
use Rattle.smith_component.proofs.Filling.{filled_surely}

module _ (config : Config) (stack : Open) (left rest : List ℕ) where
  -- A component that is missing something is one whose finish was chosen.
  pub finish_refused : (after : List ℕ) → ReadsAmong (items config stack left) left Finish after → (e : Error) → IsFillRefusal config stack after e rest
      → IsStepRefusal config stack left e rest
  finish_refused after choice InconsistentLimits h = absurd h
  finish_refused after choice MinimumNotMet h = (after, choice, h)
  finish_refused after choice ModuleRefused h = absurd h
  finish_refused after choice TooLong h = absurd h
  finish_refused after choice OutOfMemory h = tt
  finish_refused after choice PartsDisagree h = absurd h

  -- What refuses a step refuses the run that leads to it.
  pub step_refused : (input : List ℕ) → IsConsistent config → (LacksAt config rest stack left → LacksOn config input rest)
      → (RefusesModuleAt config rest stack left → RefusesModuleOn config input rest) → (e : Error) → IsStepRefusal config stack left e rest
      → IsRefusal config input e rest
  step_refused input consistent lacks refuses InconsistentLimits h = absurd h
  step_refused input consistent lacks refuses MinimumNotMet h = (consistent, lacks h)
  step_refused input consistent lacks refuses ModuleRefused h = (consistent, refuses h)
  step_refused input consistent lacks refuses TooLong h = absurd h
  step_refused input consistent lacks refuses OutOfMemory h = consistent
  step_refused input consistent lacks refuses PartsDisagree h = absurd h

-- If what is missing can be filled, no minimum refuses a step.
pub never_minimum : (config : Config) (stack : Open) (left rest : List ℕ) → Sound config stack → IsGrounded stack.inner
    → CanFill config stack.outer stack.inner
    → (e : Error) → IsStepRefusal config stack left e rest → ¬ (e ≡ MinimumNotMet)
never_minimum config stack left rest sound grounded can e h m =
    let lacks : LacksAt config rest stack left = subst (λ x. IsStepRefusal config stack left x rest) m h in
    filled_surely config stack lacks.0 rest sound grounded can lacks.2

module _ (config : Config) (rest : List ℕ) where
  pub refused_accepted : (input : List ℕ) → IsConsistent config → (LacksOn config input rest → ⊥) → (RefusesModuleOn config input rest → ⊥) → (e : Error)
      → IsRefusal config input e rest → e ≡ OutOfMemory
  refused_accepted input consistent never left InconsistentLimits h = absurd (h.0 consistent)
  refused_accepted input consistent never left MinimumNotMet h = absurd (never h.1)
  refused_accepted input consistent never left ModuleRefused h = absurd (left h.1)
  refused_accepted input consistent never left TooLong h = absurd h
  refused_accepted input consistent never left OutOfMemory h = refl
  refused_accepted input consistent never left PartsDisagree h = absurd h
