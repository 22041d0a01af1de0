-- Value types and function types of the core specification, and their bytes (Binary Format, Types).
use Rattle.std.specs.Prelude.{true, false, List}
use Rattle.smith_format.specs.Piece.{Piece, ◌⊕◌, byte, s_index, many}
use Rattle.smith_format.specs.declared.types.RefType.{RefType}
use Rattle.smith_format.specs.declared.types.RefType.TheVariants.{FuncRef, ExternRef, Concrete}
use Rattle.smith_format.specs.declared.types.ValType.{ValType}
use Rattle.smith_format.specs.declared.types.ValType.TheVariants.{I32, I64, F32, F64, V128, Ref}

-- a reference type (Types, Heap Types and Reference Types)
abbrev pub ref_val : RefType → Piece
ref_val FuncRef = byte 0x70
ref_val ExternRef = byte 0x6f
ref_val (Concrete true i) = byte 0x63 ⊕ s_index i
ref_val (Concrete false i) = byte 0x64 ⊕ s_index i

-- a value type (Types, Number Types, Vector Types and Value Types)
abbrev pub core_val : ValType → Piece
core_val I32 = byte 0x7f
core_val I64 = byte 0x7e
core_val F32 = byte 0x7d
core_val F64 = byte 0x7c
core_val V128 = byte 0x7b
core_val (Ref r) = ref_val r

-- a function type: its parameters, and its results
abbrev pub Function : Type 0
Function = List ValType × List ValType

-- a function type (Types, Result Types and Composite Types)
abbrev pub core_function : Function → Piece
core_function f = byte 0x60 ⊕ many core_val f.0 ⊕ many core_val f.1
