-- What holds of the core value types and the function types that the limits allow.
use Rattle.std.proofs.Common.{◌≤◌, Bool, true, false, List, [], ◌∷◌, ◌++◌, length, sym, arith}
use Rattle.std.specs.List.{AllByRecursion, Contains}
use Rattle.smith_input.specs.Offers.{offered}
use Rattle.smith_input.proofs.Lists.{all_both}
use Rattle.smith_format.specs.CoreFormed.{FormedFunction}
use Rattle.smith_format.specs.CoreTypes.{Function}
use Rattle.smith_format.specs.Limits.{configured, max_results}
use Rattle.smith_format.specs.declared.config.Config.{Config}
use Rattle.smith_format.specs.declared.types.RefType.TheVariants.{FuncRef, ExternRef}
use Rattle.smith_format.specs.declared.types.ValType.{ValType}
use Rattle.smith_format.specs.declared.types.ValType.TheVariants.{I32, I64, F32, F64, V128, Ref}
use Rattle.smith_core.proofs.Segments.{all_read}
use Rattle.smith_core.proofs.StandInMade.{few_results}
use Rattle.smith_core.proofs.StandInTold.{offered_all}

-- It holds of all value types but references to types.
pub record OfValues (P : ValType → Type 0) : Type 0 where
  pub numbers : AllByRecursion P (I32 ∷ I64 ∷ [])
  pub floats : AllByRecursion P (F32 ∷ F64 ∷ [])
  pub vectors : AllByRecursion P (V128 ∷ [])
  pub references : AllByRecursion P (Ref FuncRef ∷ Ref ExternRef ∷ [])

configured_all : (P : ValType → Type 0) (config : Config) → OfValues P → AllByRecursion P (configured config)
configured_all P config all =
    let floats = offered config.allow_floats (F32 ∷ F64 ∷ []) in
    let vectors = offered config.simd_enabled (V128 ∷ []) in
    all_both P (((I32 ∷ I64 ∷ []) ++ floats) ++ vectors) (offered config.reference_types_enabled (Ref FuncRef ∷ Ref ExternRef ∷ []))
    (all_both P ((I32 ∷ I64 ∷ []) ++ floats) vectors
    (all_both P (I32 ∷ I64 ∷ []) floats all.numbers (offered_all P config.allow_floats (F32 ∷ F64 ∷ []) all.floats))
    (offered_all P config.simd_enabled (V128 ∷ []) all.vectors))
    (offered_all P config.reference_types_enabled (Ref FuncRef ∷ Ref ExternRef ∷ []) all.references)

pub configured_value : (P : ValType → Type 0) (config : Config) → OfValues P → (v : ValType) → Contains (configured config) v → P v
configured_value P config all v c = all_read P (configured config) c.0 v (configured_all P config all) c.1 (sym c.2)

pub configured_values : (P : ValType → Type 0) (config : Config) → OfValues P → (vs : List ValType) → AllByRecursion (Contains (configured config)) vs
    → AllByRecursion P vs
configured_values P config all [] c = tt
configured_values P config all (v ∷ vs) c = (configured_value P config all v c.0, configured_values P config all vs c.1)

-- at most 20 parameters and as many results
pub few_values : (config : Config) (f : Function) → FormedFunction (configured config) (max_results config) f → (length f.0 ≤ 20) × (length f.1 ≤ 20)
few_values config f h = (h.few_params, let most = few_results config.multi_value_enabled in omega (arith, h.few_results, most))
