-- What is in a core module besides its types, and its bytes (core specification, Binary Format, Modules).
use Rattle.std.specs.Prelude.{ℕ, zero, suc, [], ◌∷◌, Option, Some, None, string_bytes}
use Rattle.std.specs.declared.vec.Vec.{Vec}
use Rattle.std.specs.declared.alloc.Global.{Global}
use Rattle.std.specs.declared.string.String.{String}
use Rattle.smith_format.specs.CoreTypes.{core_val, ref_val}
use Rattle.smith_format.specs.Entities.{global_type, kind_byte, table_type}
use Rattle.smith_format.specs.Piece.{Piece, ◌⊕◌, byte, bytes, u, s, raw, text, many, framed}
use Rattle.smith_format.specs.declared.types.ExportKind.{ExportKind}
use Rattle.smith_format.specs.declared.types.GlobalType.{GlobalType}
use Rattle.smith_format.specs.declared.types.RefType.{RefType}
use Rattle.smith_format.specs.declared.types.TableType.{TableType}
use Rattle.smith_format.specs.declared.types.ValType.{ValType}
use Rattle.smith_core.specs.declared.module.segments.Code.{Code}
use Rattle.smith_core.specs.declared.module.segments.DataSegment.{DataSegment}
use Rattle.smith_core.specs.declared.module.segments.DataSegmentKind.{DataSegmentKind}
use Rattle.smith_core.specs.declared.module.segments.DataSegmentKind.TheVariants as data_kind
use Rattle.smith_core.specs.declared.module.segments.ElementKind.{ElementKind}
use Rattle.smith_core.specs.declared.module.segments.ElementKind.TheVariants.{Active, Passive, Declared}
use Rattle.smith_core.specs.declared.module.segments.ElementSegment.{ElementSegment}
use Rattle.smith_core.specs.declared.module.segments.Elements.{Elements}
use Rattle.smith_core.specs.declared.module.segments.Elements.TheVariants.{Functions, Expressions}
use Rattle.smith_core.specs.declared.module.segments.Instructions.{Instructions}
use Rattle.smith_core.specs.declared.module.segments.Instructions.TheVariants.{Generated, Arbitrary}
use Rattle.smith_core.specs.declared.module.segments.Offset.{Offset}
use Rattle.smith_core.specs.declared.module.segments.Offset.TheVariants.{Const32, Const64, Global as GlobalOffset}

-- a constant expression, given without its end (Instructions, Expressions)
abbrev pub expression : Vec ℕ Global → Piece
expression e = raw e.items ⊕ byte 0x0b

-- a table, and its initial value if it has one (Modules, Table Section)
abbrev pub table : TableType × Option (Vec ℕ Global) → Piece
table (t, None) = table_type t
table (t, Some e) = bytes (0x40 ∷ 0x00 ∷ []) ⊕ table_type t ⊕ expression e

-- a global, whose type is at its index among these (Modules, Global Section)
abbrev pub named_type : Option GlobalType → Piece
named_type None = None
named_type (Some g) = global_type g

-- an export (Modules, Export Section)
abbrev pub export : String Global × ExportKind × ℕ → Piece
export e = text (string_bytes e.0) ⊕ byte (kind_byte e.1) ⊕ u e.2

-- the offset of a segment: the instruction that produces it, and its end (Instructions, Numeric Instructions, Variable Instructions)
abbrev pub offset : Offset → Piece
offset (Const32 n) = byte 0x41 ⊕ s n ⊕ byte 0x0b
offset (Const64 n) = byte 0x42 ⊕ s n ⊕ byte 0x0b
offset (GlobalOffset g) = byte 0x23 ⊕ u g ⊕ byte 0x0b

-- an element segment (Modules, Element Section): what precedes its functions or its expressions, one line for each of the eight
-- forms, and then those

abbrev pub functions_front : ElementKind → Piece
functions_front (Active None o) = byte 0 ⊕ offset o
functions_front Passive = byte 1 ⊕ byte 0x00
functions_front (Active (Some x) o) = byte 2 ⊕ u x ⊕ offset o ⊕ byte 0x00
functions_front Declared = byte 3 ⊕ byte 0x00

abbrev pub expressions_front : ElementKind → RefType → Piece
expressions_front (Active None o) t = byte 4 ⊕ offset o
expressions_front Passive t = byte 5 ⊕ ref_val t
expressions_front (Active (Some x) o) t = byte 6 ⊕ u x ⊕ offset o ⊕ ref_val t
expressions_front Declared t = byte 7 ⊕ ref_val t

abbrev pub element_of : ElementKind → RefType → Elements → Piece
element_of k t (Functions fs) = functions_front k ⊕ many u fs.items
element_of k t (Expressions es) = expressions_front k t ⊕ many expression es.items

abbrev pub element : ElementSegment → Piece
element e = element_of e.kind e.ty e.items

-- local variables are counted one by one (Modules, Code Section)
abbrev pub local : ValType → Piece
local t = byte 0x01 ⊕ core_val t

-- Generated instructions are without their end, and arbitrary ones are taken as they are.
abbrev pub instructions : Instructions → Piece
instructions (Generated e) = expression e
instructions (Arbitrary e) = raw e.items

-- the code of a function, after its length
abbrev pub code_text : Code → Piece
code_text c = framed (many local c.locals.items ⊕ instructions c.instructions)

-- where a data segment goes (Modules, Data Section); the memory 0 is not written
abbrev pub data_form : DataSegmentKind → Piece
data_form (data_kind.Active zero o) = byte 0 ⊕ offset o
data_form data_kind.Passive = byte 1
data_form (data_kind.Active (suc m) o) = byte 2 ⊕ u (suc m) ⊕ offset o

-- a data segment
abbrev pub data_segment : DataSegment → Piece
data_segment d = data_form d.kind ⊕ framed (raw d.init.items)
