-- The scripts of core function types, limits and memory types are bytes.
use Rattle.std.proofs.Common.{ℕ, ◌+◌, ◌-◌, ◌≤◌, Bool, true, false, List, [], ◌∷◌, ◌++◌, length, length-append, arith, Option, Some, None}
use Rattle.std.specs.List.{AllByRecursion}
use Rattle.std.specs.Prelude.{IfSome}
use Rattle.smith_input.specs.Offers.{offered}
use Rattle.smith_input.specs.Script.{script_among}
use Rattle.smith_input.proofs.ScriptBytes.{Small, small_byte, small_few, small_join, small_more, small_none, small_turns}
use Rattle.smith_format.specs.CoreFormed.{FormedLimits, FormedMemory}
use Rattle.smith_format.specs.CoreScript.{script_between, script_function, script_limits, script_maximum, script_memory, script_values}
use Rattle.smith_format.specs.CoreTypes.{Function}
use Rattle.smith_format.specs.Equality.{same_val}
use Rattle.smith_format.specs.Limits.{configured, max_results}
use Rattle.smith_format.specs.declared.config.Config.{Config}
use Rattle.smith_format.specs.declared.types.MemoryType.{MemoryType}
use Rattle.smith_format.specs.declared.types.RefType.TheVariants.{FuncRef, ExternRef}
use Rattle.smith_format.specs.declared.types.ValType.{ValType}
use Rattle.smith_format.specs.declared.types.ValType.TheVariants.{I32, I64, F32, F64, V128, Ref}

-- what all items are, the items of a list are
pub all_of : {A : Type 0} (P : A → Type 0) → ((x : A) → P x) → (xs : List A) → AllByRecursion P xs
all_of P one [] = tt
all_of P one (x ∷ xs) = (one x, all_of P one xs)

-- Function types.

offered_few : {A : Type 0} (b : Bool) (xs : List A) → length (offered b xs) ≤ length xs
offered_few true xs = omega arith
offered_few false xs = omega arith

few_append : {A : Type 0} (a b c d : List A) → length a ≤ 2 → length b ≤ 2 → length c ≤ 1 → length d ≤ 2 → length (a ++ b ++ c ++ d) ≤ 7
few_append a b c d h i j k = omega (arith, length-append (a ++ b ++ c) d, length-append (a ++ b) c, length-append a b, h, i, j, k)

pub few_values : (config : Config) → length (configured config) ≤ 7
few_values config =
    few_append (I32 ∷ I64 ∷ []) (offered config.allow_floats (F32 ∷ F64 ∷ [])) (offered config.simd_enabled (V128 ∷ []))
    (offered config.reference_types_enabled (Ref FuncRef ∷ Ref ExternRef ∷ []))
    (omega arith) (offered_few config.allow_floats _) (offered_few config.simd_enabled _) (offered_few config.reference_types_enabled _)

pub small_value : (config : Config) (x : ValType) → Small (script_among same_val (configured config) x)
small_value config x = let few = few_values config in small_few same_val (configured config) x (omega (arith, few))

small_values : (config : Config) (max : ℕ) (xs : List ValType) → Small (script_values (configured config) max xs)
small_values config max xs =
    let said : ValType → List ℕ = λ x. script_among same_val (configured config) x in
    small_turns (λ (s : Unit {0}) x. said x) (λ s x. tt) 0 max 0 tt xs (all_of (λ x. (s : Unit {0}) → Small (said x)) (λ x s. small_value config x) xs)

pub small_function : (config : Config) (f : Function) → Small (script_function (configured config) (max_results config) f)
small_function config f = small_join (small_values config 20 f.0) (small_values config (max_results config) f.1)

-- Limits.

pub small_between : (low high n : ℕ) → n ≤ high → high ≤ 20 → Small (script_between low high n)
small_between low high n h small = small_byte (high - low + 1) (n - low) (omega (arith, small)) (omega (arith, h, small))

pub small_maximum : (minimum : ℕ) (maximum : Option ℕ) → IfSome maximum (λ n. (minimum ≤ n) × (n ≤ 20)) → Small (script_maximum minimum maximum)
small_maximum minimum None f = small_more 0 (omega arith) small_none
small_maximum minimum (Some n) f = small_more 1 (omega arith) (small_between minimum 20 n f.1 (omega arith))

pub small_limits : (minimum : ℕ) (maximum : Option ℕ) → FormedLimits minimum maximum → Small (script_limits minimum maximum)
small_limits minimum maximum f = small_join (small_between 0 10 minimum f.least (omega arith)) (small_maximum minimum maximum f.most)

pub small_memory : (m : MemoryType) → FormedMemory m → Small (script_memory m)
small_memory m f = small_limits m.minimum m.maximum f.limits
