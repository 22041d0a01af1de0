-- Every plan has a script.
use Rattle.std.proofs.Common.{◌≡◌, ℕ, List, [], refl, subst, append-nil}
use Rattle.smith_format.specs.Consistency.{IsConsistent}
use Rattle.smith_format.specs.declared.config.Config.{Config}
use Rattle.smith_component.specs.Runs.{RunsTo}
use Rattle.smith_tree.specs.Script.{Within, script}
use Rattle.smith_tree.specs.Tree.{Tree}
use Rattle.smith_component.proofs.Plans.{script_runs}
use Rattle.smith_component.proofs.RunsFinishable.{runs_finish}
use Rattle.smith_component.proofs.RunsReadable.{runs_come}
use Rattle.smith_component.proofs.ScriptBytes.{plan_bytes}
use Rattle.smith_script.specs.IsScript.{CannotBeGenerated, IsScript}
use Rattle.smith_script.specs.declared.error.ScriptError.{ScriptError}
use Rattle.smith_script.specs.declared.error.ScriptError.TheVariants.{IllFormed, InconsistentLimits, NoScript, OutOfMemory, Unread}

module _ (config : Config) (plan : Tree) (consistent : IsConsistent config) (within : Within config plan) where
  pub plan_script : IsScript config plan (script config plan)
  plan_script = record {
    is = refl;
    bytes = plan_bytes config plan consistent within;
    consistent = consistent;
    spelled = within.spelled;
    runs = subst (λ b. RunsTo config b plan []) (append-nil (script config plan)) (script_runs config plan [] consistent within);
  }

  -- It is refused only when out of memory.
  pub plan_or_memory : (e : ScriptError) → (¬ (e ≡ OutOfMemory) → (b : List ℕ) → ¬ IsScript config plan b) → e ≡ OutOfMemory
  plan_or_memory OutOfMemory h = refl
  plan_or_memory InconsistentLimits h = absurd (h (λ (e : InconsistentLimits ≡ OutOfMemory). cc) (script config plan) plan_script)
  plan_or_memory (Unread reason offset) h = absurd (h (λ (e : Unread reason offset ≡ OutOfMemory). cc) (script config plan) plan_script)
  plan_or_memory (IllFormed fault) h = absurd (h (λ (e : IllFormed fault ≡ OutOfMemory). cc) (script config plan) plan_script)
  plan_or_memory (NoScript limit offset) h = absurd (h (λ (e : NoScript limit offset ≡ OutOfMemory). cc) (script config plan) plan_script)

-- What is refused for another reason is produced by no input, since otherwise it would be a plan.
pub refused_comes_on_none : (config : Config) (t : Tree) → IsConsistent config → (e : ScriptError)
    → (¬ (e ≡ OutOfMemory) → (b : List ℕ) → ¬ IsScript config t b) → ¬ (e ≡ OutOfMemory) → CannotBeGenerated config t
refused_comes_on_none config t consistent e h not input left c spells followed run =
    let within : Within config t = record {
      possible = runs_come config input t left consistent run;
      finishable = runs_finish config input t left followed run;
      spelled = (c, spells);
    } in
    not (plan_or_memory config t consistent within e h)
