-- What a core module imports or exports, and its bytes (core specification, Binary Format, Types and Modules).
use Rattle.std.specs.Prelude.{ℕ, ◌+◌, Bool, true, false, List, [], Option, Some, None}
use Rattle.smith_format.specs.Piece.{Piece, ◌⊕◌, byte, bytes, u, number, text}
use Rattle.smith_format.specs.CoreTypes.{core_val, ref_val}
use Rattle.smith_format.specs.declared.types.EntityType.{EntityType}
use Rattle.smith_format.specs.declared.types.EntityType.TheVariants.{Func, Table, Memory, Global, Tag}
use Rattle.smith_format.specs.declared.types.ExportKind.{ExportKind}
use Rattle.smith_format.specs.declared.types.ExportKind.TheVariants as kind
use Rattle.smith_format.specs.declared.types.GlobalType.{GlobalType}
use Rattle.smith_format.specs.declared.types.MemoryType.{MemoryType}
use Rattle.smith_format.specs.declared.types.TableType.{TableType}
use Rattle.smith_format.specs.declared.types.TagType.{TagType}

-- a bit of a byte: its value if it is set
abbrev pub bit : Bool → ℕ → ℕ
bit true value = value
bit false value = 0

abbrev pub has_maximum : Option ℕ → Bool
has_maximum None = false
has_maximum (Some n) = true

-- the maximum, if there is one
abbrev pub maximum : Option ℕ → Piece
maximum None = bytes []
maximum (Some n) = number n

-- limits (Types, Limits): bit 0 says that a maximum follows, bit 1 that it is shared, and bit 2 that it has 64 bits.
abbrev pub limits : Bool → Bool → ℕ → Option ℕ → Piece
limits shared wide minimum most = byte (bit (has_maximum most) 1 + (bit shared 2 + bit wide 4)) ⊕ number minimum ⊕ maximum most

-- a table type (Types, Table Types), which is never shared
abbrev pub table_type : TableType → Piece
table_type t = ref_val t.element_type ⊕ limits false t.table64 t.minimum t.maximum

-- a memory type (Types, Memory Types)
abbrev pub memory_type : MemoryType → Piece
memory_type m = limits m.shared m.memory64 m.minimum m.maximum

-- a global type (Types, Global Types)
abbrev pub global_type : GlobalType → Piece
global_type g = core_val g.val_type ⊕ byte (bit g.mutable 1)

-- a tag type (Types, Tag Types)
abbrev pub tag_type : TagType → Piece
tag_type t = byte 0x00 ⊕ u t.func_type_idx

-- what is imported or exported (Types, External Types)
abbrev pub entity : EntityType → Piece
entity (Func i) = byte 0x00 ⊕ u i
entity (Table t) = byte 0x01 ⊕ table_type t
entity (Memory m) = byte 0x02 ⊕ memory_type m
entity (Global g) = byte 0x03 ⊕ global_type g
entity (Tag t) = byte 0x04 ⊕ tag_type t

-- an import: the names of the module and of the item, and what the item is
abbrev pub CoreImport : Type 0
CoreImport = List ℕ × List ℕ × EntityType

-- an import (Modules, Import Section)
abbrev pub core_import : CoreImport → Piece
core_import i = text i.0 ⊕ text i.1 ⊕ entity i.2

-- what sort of thing is imported or exported (Modules, imports and exports)
abbrev pub kind_of : EntityType → ExportKind
kind_of (Func i) = kind.Func
kind_of (Table t) = kind.Table
kind_of (Memory m) = kind.Memory
kind_of (Global g) = kind.Global
kind_of (Tag t) = kind.Tag

-- its byte when it is exported (Modules, Export Section)
abbrev pub kind_byte : ExportKind → ℕ
kind_byte kind.Func = 0x00
kind_byte kind.Table = 0x01
kind_byte kind.Memory = 0x02
kind_byte kind.Global = 0x03
kind_byte kind.Tag = 0x04
