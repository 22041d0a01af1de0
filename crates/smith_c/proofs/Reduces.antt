-- What is found, and why there is none.
use Rattle.std.proofs.Common.{◌≡◌, ◌≢◌, ◌↔◌, ℕ, List, Option, Some, None, Result, Ok, Err, IfOk, IfErr, refl}
use Rattle.std.specs.Option.{option_map}
use Rattle.smith_format.specs.Consistency.{IsConsistent}
use Rattle.smith_format.specs.declared.config.Config.{Config}
use Rattle.smith_reduce.specs.Bytes.{IsReduceRefusal}
use Rattle.smith_reduce.specs.declared.error.ReduceError.{ReduceError}
use Rattle.smith_reduce.specs.declared.error.ReduceError.TheVariants.{InconsistentLimits, OutOfMemory, Unread}
use Rattle.smith_c.specs.Limits.{limits_of}
use Rattle.smith_c.specs.Reduces.{Lacks, LacksWithin, found, status_of}
use Rattle.smith_c.specs.declared.limits.Limits.{Limits}

-- what a refusal says if limits are not the reason
abbrev pub Refuses : List ℕ → ReduceError → Type 0
Refuses bytes e = IsReduceRefusal bytes e × (e ≢ InconsistentLimits)

pub no_limits : {V : Type 0} (bytes : List ℕ) (made : Result V ReduceError) → IfErr made (IsReduceRefusal bytes)
    → IfErr made (λ e. (e ≡ InconsistentLimits) ↔ (¬ (Unit {0}))) → IfErr made (Refuses bytes)
no_limits bytes (Ok x) refused limits = tt
no_limits bytes (Err e) refused limits = (refused, λ is. limits.0 is tt)

module _ {V W : Type 0} (shown : V → W) (P : Option W → Type 0) where
  pub found_some : (made : Result (Option V) ReduceError) → IfOk made (λ r. P (option_map shown r)) → IfOk (found made) (λ b. P (Some (shown b)))
  found_some (Ok (Some b)) is = is
  found_some (Ok None) is = tt
  found_some (Err e) is = tt

  pub lacks : (bytes : List ℕ) (e : ReduceError) → Refuses bytes e → Lacks (P None) bytes (status_of e)
  lacks bytes OutOfMemory refused = tt
  lacks bytes InconsistentLimits refused = absurd (refused.1 refl)
  lacks bytes (Unread reason offset) refused = (offset, refused.0)

  pub found_none : (bytes : List ℕ) (made : Result (Option V) ReduceError) → IfOk made (λ r. P (option_map shown r)) → IfErr made (Refuses bytes)
      → IfErr (found made) (λ s. Lacks (P None) bytes s)
  found_none bytes (Ok (Some b)) is refused = tt
  found_none bytes (Ok None) is refused = is
  found_none bytes (Err e) is refused = lacks bytes e refused

-- The limits are a configuration's that fits together, and it has the property.
abbrev pub Within : Limits → (Config → Type 0) → Type 0
Within limits P = (config : Config) × (limits ≡ limits_of config) × IsConsistent config × P config

module _ (limits : Limits) (bytes : List ℕ) (config : Config) (told : limits ≡ limits_of config) where
  unreduced : (none : Type 0) (e : ReduceError) → IsReduceRefusal bytes e → ((e ≡ InconsistentLimits) ↔ (¬ IsConsistent config))
      → LacksWithin none limits bytes (status_of e)
  unreduced none OutOfMemory refused fits = (config, told)
  unreduced none InconsistentLimits refused fits = (config, told, fits.0 refl)
  unreduced none (Unread reason offset) refused fits = (offset, refused)

  pub within_some : {V W : Type 0} (shown : V → W) (P : Config → Option W → Type 0) (made : Result (Option V) ReduceError)
      → IfOk made (λ r. P config (option_map shown r)) → IfOk made (λ _. IsConsistent config)
      → IfOk (found made) (λ b. Within limits (λ c. P c (Some (shown b))))
  within_some shown P (Ok (Some b)) is fits = (config, told, fits, is)
  within_some shown P (Ok None) is fits = tt
  within_some shown P (Err e) is fits = tt

  pub within_none : {V W : Type 0} (shown : V → W) (P : Config → Option W → Type 0) (made : Result (Option V) ReduceError)
      → IfOk made (λ r. P config (option_map shown r)) → IfOk made (λ _. IsConsistent config) → IfErr made (IsReduceRefusal bytes)
      → IfErr made (λ e. (e ≡ InconsistentLimits) ↔ (¬ IsConsistent config))
      → IfErr (found made) (λ s. LacksWithin (Within limits (λ c. P c None)) limits bytes s)
  within_none shown P (Ok (Some b)) is fits refused consistent = tt
  within_none shown P (Ok None) is fits refused consistent = (config, told, fits, is)
  within_none shown P (Err e) is fits refused consistent = unreduced (Within limits (λ c. P c None)) e refused consistent
