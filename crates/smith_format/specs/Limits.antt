-- Which core value types and how many results the limits allow.
use Rattle.std.specs.Prelude.{ℕ, List, [], ◌∷◌, ◌++◌, if◌then◌else◌}
use Rattle.smith_input.specs.Offers.{offered}
use Rattle.smith_format.specs.declared.config.Config.{Config}
use Rattle.smith_format.specs.declared.types.RefType.TheVariants.{FuncRef, ExternRef}
use Rattle.smith_format.specs.declared.types.ValType.{ValType}
use Rattle.smith_format.specs.declared.types.ValType.TheVariants.{I32, I64, F32, F64, V128, Ref}

-- the core value types that the limits allow (core specification, Types, Value Types)
abbrev pub configured : Config → List ValType
configured c =
    (I32 ∷ I64 ∷ []) ++ offered c.allow_floats (F32 ∷ F64 ∷ []) ++ offered c.simd_enabled (V128 ∷ []) ++ offered c.reference_types_enabled
    (Ref FuncRef ∷ Ref ExternRef ∷ [])

-- how many results the limits allow a core function
abbrev pub max_results : Config → ℕ
max_results config = if config.multi_value_enabled then 20 else 1
