-- How types are read.
use Rattle.std.specs.Prelude.{ℕ, List, Option, Some, None, ◌==◌, if◌then◌else◌}
use Rattle.smith_syntax.specs.Entries.{Field, Case, Signature}
use Rattle.smith_syntax.specs.Entries.{DefValType, primitive_type, record_type, variant_type, list_type, tuple_type, flags_type, enum_type, option_type}
use Rattle.smith_syntax.specs.Entries.{result_type}
use Rattle.smith_syntax.specs.declared.types.ComponentValType.{ComponentValType}
use Rattle.smith_syntax.specs.declared.types.ComponentValType.TheVariants.{Primitive, Indexed}
use Rattle.smith_syntax.specs.declared.types.PrimitiveValType.{PrimitiveValType}
use Rattle.smith_syntax.specs.declared.types.PrimitiveValType.TheVariants as prim
use Rattle.smith_read.specs.Reading.{Found, ◌>>=◌, seen, both_at, byte_at, skip_at, index_at, text_at, many_at}

unfoldable pub primitive_of : ℕ → Option PrimitiveValType
primitive_of b =
    if b == 0x7f then Some prim.Bool else if b == 0x7e then Some prim.S8 else if b == 0x7d then Some prim.U8 else if b == 0x7c then Some prim.S16
    else if b == 0x7b then Some prim.U16
    else if b == 0x7a then Some prim.S32 else if b == 0x79 then Some prim.U32 else if b == 0x78 then Some prim.S64 else if b == 0x77 then Some prim.U64
    else if b == 0x76 then Some prim.F32
    else if b == 0x75 then Some prim.F64 else if b == 0x74 then Some prim.Char else if b == 0x73 then Some prim.String else None

-- a primitive type, or an index from where its byte would be
abbrev pub val_at : List ℕ → List ℕ → Option PrimitiveValType → Found ComponentValType
val_at bs rest (Some p) = Some (Primitive p, rest)
val_at bs rest None = seen Indexed (index_at bs)

unfoldable pub valtype_at : List ℕ → Found ComponentValType
valtype_at bs = byte_at bs >>= λ t. val_at bs t.1 (primitive_of t.0)

unfoldable pub maybe_valtype_at : List ℕ → Found (Option ComponentValType)
maybe_valtype_at bs = byte_at bs >>= λ t. if t.0 == 0x00 then Some (None, t.1) else if t.0 == 0x01 then seen Some (valtype_at t.1) else None

unfoldable pub field_at : List ℕ → Found Field
field_at bs = both_at text_at valtype_at bs

unfoldable pub case_at : List ℕ → Found Case
case_at bs = text_at bs >>= λ n. maybe_valtype_at n.1 >>= λ v. skip_at 0x00 v.1 >>= λ rest. Some ((n.0, v.0), rest)

unfoldable pub result_at : List ℕ → Found (Option ComponentValType)
result_at bs =
    byte_at bs >>= λ t. if t.0 == 0x00 then seen Some (valtype_at t.1) else if t.0 == 0x01 then (skip_at 0x00 t.1 >>= λ rest. Some (None, rest)) else None

abbrev pub primitive_at : Option PrimitiveValType → List ℕ → Found DefValType
primitive_at (Some p) rest = Some (primitive_type p, rest)
primitive_at None rest = None

unfoldable pub defined_after : ℕ → List ℕ → Found DefValType
defined_after tag bs =
    if tag == 0x72 then seen record_type (many_at field_at bs)
    else if tag == 0x71 then seen variant_type (many_at case_at bs)
    else if tag == 0x70 then seen list_type (valtype_at bs)
    else if tag == 0x6f then seen tuple_type (many_at valtype_at bs)
    else if tag == 0x6e then seen flags_type (many_at text_at bs)
    else if tag == 0x6d then seen enum_type (many_at text_at bs)
    else if tag == 0x6b then seen option_type (valtype_at bs)
    else if tag == 0x6a then seen (λ x. result_type x.0 x.1) (both_at maybe_valtype_at maybe_valtype_at bs)
    else primitive_at (primitive_of tag) bs

unfoldable pub defined_at : List ℕ → Found DefValType
defined_at bs = byte_at bs >>= λ t. defined_after t.0 t.1

abbrev pub signature_of : List Field × Option ComponentValType → Signature
signature_of x = record { params = x.0; result = x.1 }

-- a function type after its first byte
unfoldable pub function_at : List ℕ → Found Signature
function_at bs = seen signature_of (both_at (many_at field_at) result_at bs)
