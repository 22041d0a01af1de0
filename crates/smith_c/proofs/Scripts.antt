-- Why there is no script.
use Rattle.std.proofs.Common.{◌≡◌, ◌↔◌, ℕ, List, Some, None, refl}
use Rattle.smith_format.specs.Consistency.{IsConsistent}
use Rattle.smith_format.specs.declared.config.Config.{Config}
use Rattle.smith_tree.specs.Grammar.{Spells}
use Rattle.smith_tree.specs.Tree.{Tree}
use Rattle.smith_script.specs.IsScript.{CannotBeGenerated}
use Rattle.smith_script.specs.Refusals.{IsScriptRefusal}
use Rattle.smith_script.specs.declared.error.ScriptError.{ScriptError}
use Rattle.smith_script.specs.declared.error.ScriptError.TheVariants.{IllFormed, InconsistentLimits, NoScript, OutOfMemory, Unread}
use Rattle.smith_c.specs.Limits.{limits_of}
use Rattle.smith_c.specs.Scripts.{HasNoScript, Withholds, offset_of, status_of}
use Rattle.smith_c.specs.declared.limits.Limits.{Limits}

module _ (limits : Limits) (bytes : List ℕ) (config : Config) (told : limits ≡ limits_of config) where
  no_script : (IsConsistent config → (t : Tree) → Spells t bytes → CannotBeGenerated config t) → HasNoScript limits bytes
  no_script none = record { config = config; told = told; none = none }

  pub withheld : (e : ScriptError) → ((e ≡ InconsistentLimits) ↔ (¬ IsConsistent config))
      → (IsConsistent config → ¬ (e ≡ OutOfMemory) → (t : Tree) → Spells t bytes → CannotBeGenerated config t) → IsScriptRefusal bytes e
      → Withholds limits bytes (status_of e) (offset_of e)
  withheld OutOfMemory l h why = (config, told)
  withheld InconsistentLimits l h why = (config, told, l.0 refl)
  withheld (Unread reason offset) l h why = (no_script (λ k. h k (λ (e : Unread reason offset ≡ OutOfMemory). cc)), why)
  withheld (IllFormed fault) l h why = (no_script (λ k. h k (λ (e : IllFormed fault ≡ OutOfMemory). cc)), (why.0, why.1, why.2, why.3.0))
  withheld (NoScript limit None) l h why = (no_script (λ k. h k (λ (e : NoScript limit None ≡ OutOfMemory). cc)), why.0, λ known. absurd (known refl))
  withheld (NoScript limit (Some offset)) l h why =
      (no_script (λ k. h k (λ (e : NoScript limit (Some offset) ≡ OutOfMemory). cc)), why.0, λ known. why.1)
