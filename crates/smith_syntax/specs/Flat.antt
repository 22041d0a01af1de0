-- How function types are flattened to core function types (CanonicalABI.md, flattening).
use Rattle.std.specs.Prelude.{◌≡◌, Bool, false, ◌&&◌, map, length, Option, Some, None}
use Rattle.std.specs.List.{list_all}
use Rattle.std.specs.Option.{is_some, option_to_list}
use Rattle.smith_format.specs.CoreTypes.{Function}
use Rattle.smith_format.specs.declared.types.ValType.{ValType}
use Rattle.smith_format.specs.declared.types.ValType.TheVariants.{I32, I64, F32, F64}
use Rattle.smith_syntax.specs.Entries.{Signature}
use Rattle.smith_syntax.specs.declared.types.ComponentValType.{ComponentValType}
use Rattle.smith_syntax.specs.declared.types.ComponentValType.TheVariants.{Primitive, Indexed}
use Rattle.smith_syntax.specs.declared.types.PrimitiveValType.{PrimitiveValType}
use Rattle.smith_syntax.specs.declared.types.PrimitiveValType.TheVariants as prim

-- The core value type of a primitive. A string is none.
abbrev pub flat_primitive : PrimitiveValType → Option ValType
flat_primitive prim.Bool = Some I32
flat_primitive prim.S8 = Some I32
flat_primitive prim.U8 = Some I32
flat_primitive prim.S16 = Some I32
flat_primitive prim.U16 = Some I32
flat_primitive prim.S32 = Some I32
flat_primitive prim.U32 = Some I32
flat_primitive prim.S64 = Some I64
flat_primitive prim.U64 = Some I64
flat_primitive prim.F32 = Some F32
flat_primitive prim.F64 = Some F64
flat_primitive prim.Char = Some I32
flat_primitive prim.String = None

-- the same for a value type in use: an indexed one is none
abbrev pub flat_value : ComponentValType → Option ValType
flat_value (Primitive p) = flat_primitive p
flat_value (Indexed i) = None

-- Is there a result that is a scalar?
abbrev pub is_scalar_result : Option ComponentValType → Bool
is_scalar_result None = false
is_scalar_result (Some v) = is_some (flat_value v)

-- Are all parameters scalars, and is there a result that is one?
abbrev pub is_scalar : Signature → Bool
is_scalar s = list_all (λ p. is_some (flat_value p.1)) s.params && is_scalar_result s.result

-- The core function type that a signature flattens to: it takes the scalar of each parameter, and returns the result's.
pub record Flattens (s : Signature) (f : Function) : Type 0 where
  pub params : map (λ p. flat_value p.1) s.params ≡ map Some f.0
  pub result : map flat_value (option_to_list s.result) ≡ map Some f.1
  pub one : length f.1 ≡ 1

-- Two signatures flatten to the same core function type.
abbrev pub Flat : Signature → Signature → Type 0
Flat s t = (f : Function) × Flattens s f × Flattens t f
