-- The text of types of values and of functions (Explainer.md, type definitions).
use Rattle.std.specs.Prelude.{ℕ, List, [], Option, Some, None, codes, decimal}
use Rattle.std.specs.List.{flat_map}
use Rattle.smith_syntax.specs.Entries.{Field, Case, Signature, DefValType, primitive_type, record_type, variant_type, list_type, tuple_type, flags_type}
use Rattle.smith_syntax.specs.Entries.{enum_type, option_type, result_type}
use Rattle.smith_syntax.specs.declared.types.ComponentValType.{ComponentValType}
use Rattle.smith_syntax.specs.declared.types.ComponentValType.TheVariants.{Primitive, Indexed}
use Rattle.smith_syntax.specs.declared.types.PrimitiveValType.{PrimitiveValType}
use Rattle.smith_syntax.specs.declared.types.PrimitiveValType.TheVariants as prim
use Rattle.smith_print.specs.Words.{◌⧺◌, quoted}

abbrev pub primitive_text : PrimitiveValType → List ℕ
primitive_text prim.Bool = codes "bool"
primitive_text prim.S8 = codes "s8"
primitive_text prim.U8 = codes "u8"
primitive_text prim.S16 = codes "s16"
primitive_text prim.U16 = codes "u16"
primitive_text prim.S32 = codes "s32"
primitive_text prim.U32 = codes "u32"
primitive_text prim.S64 = codes "s64"
primitive_text prim.U64 = codes "u64"
primitive_text prim.F32 = codes "f32"
primitive_text prim.F64 = codes "f64"
primitive_text prim.Char = codes "char"
primitive_text prim.String = codes "string"

abbrev pub value_text : ComponentValType → List ℕ
value_text (Primitive p) = primitive_text p
value_text (Indexed i) = decimal i

-- a value type that may be missing, after words and before others
abbrev pub maybe_text : List ℕ → Option ComponentValType → List ℕ → List ℕ
maybe_text front None behind = []
maybe_text front (Some v) behind = front ⧺ value_text v ⧺ behind

-- Members, each after the same words.

abbrev pub field_text : List ℕ → Field → List ℕ
field_text front f = front ⧺ quoted f.0 ⧺ codes " " ⧺ value_text f.1 ⧺ codes ")"

abbrev pub case_text : List ℕ → Case → List ℕ
case_text front c = front ⧺ quoted c.0 ⧺ maybe_text (codes " ") c.1 [] ⧺ codes ")"

abbrev pub label_text : List ℕ → List ℕ → List ℕ
label_text front name = front ⧺ quoted name

abbrev pub element_text : List ℕ → ComponentValType → List ℕ
element_text front v = front ⧺ value_text v

-- a head, members and the end
abbrev pub group : {A : Type 0} → List ℕ → (A → List ℕ) → List A → List ℕ
group head text xs = head ⧺ flat_map text xs ⧺ codes ")"

-- a type of values (Explainer.md, defvaltype)
abbrev pub defined_text : DefValType → List ℕ
defined_text (primitive_type p) = primitive_text p
defined_text (record_type fs) = group (codes "(record") (field_text (codes " (field ")) fs
defined_text (variant_type cs) = group (codes "(variant") (case_text (codes " (case ")) cs
defined_text (list_type v) = codes "(list " ⧺ value_text v ⧺ codes ")"
defined_text (tuple_type vs) = group (codes "(tuple") (element_text (codes " ")) vs
defined_text (flags_type ns) = group (codes "(flags") (label_text (codes " ")) ns
defined_text (enum_type ns) = group (codes "(enum") (label_text (codes " ")) ns
defined_text (option_type v) = codes "(option " ⧺ value_text v ⧺ codes ")"
defined_text (result_type ok err) = codes "(result" ⧺ maybe_text (codes " ") ok [] ⧺ maybe_text (codes " (error ") err (codes ")") ⧺ codes ")"

-- a type of functions (Explainer.md, functype)
abbrev pub function_text : Signature → List ℕ
function_text s = codes "(func" ⧺ flat_map (field_text (codes " (param ")) s.params ⧺ maybe_text (codes " (result ") s.result (codes ")") ⧺ codes ")"
