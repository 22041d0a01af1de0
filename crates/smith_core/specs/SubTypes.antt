-- The types of a core module, and their bytes (core specification, Binary Format, Types, Composite Types and Recursive Types).
use Rattle.std.specs.Prelude.{ℕ, Bool, true, false, List, [], ◌∷◌, Option, Some, None}
use Rattle.smith_format.specs.CoreTypes.{core_val, core_function}
use Rattle.smith_format.specs.Shown.{shown_func}
use Rattle.smith_format.specs.Entities.{bit}
use Rattle.smith_format.specs.Piece.{Piece, ◌⊕◌, byte, bytes, u, many}
use Rattle.smith_core.specs.declared.module.types.CompositeType.{CompositeType}
use Rattle.smith_core.specs.declared.module.types.CompositeType.TheVariants.{Func, Array, Struct}
use Rattle.smith_core.specs.declared.module.types.FieldType.{FieldType}
use Rattle.smith_core.specs.declared.module.types.StorageType.{StorageType}
use Rattle.smith_core.specs.declared.module.types.StorageType.TheVariants.{I8, I16, Val}
use Rattle.smith_core.specs.declared.module.types.SubType.{SubType}

-- a storage type
abbrev pub storage : StorageType → Piece
storage I8 = byte 0x78
storage I16 = byte 0x77
storage (Val t) = core_val t

-- a field type
abbrev pub field : FieldType → Piece
field f = storage f.element ⊕ byte (bit f.mutable 1)

-- a composite type
abbrev pub composite : CompositeType → Piece
composite (Func f) = core_function (shown_func f)
composite (Array f) = byte 0x5e ⊕ field f
composite (Struct fs) = byte 0x5f ⊕ many field fs.items

-- what precedes the composite type of a sub type: nothing if it is final and has no supertype, and otherwise which it
-- is, and the list of its supertypes
abbrev pub sub_prefix : Bool → Option ℕ → Piece
sub_prefix true None = bytes []
sub_prefix true (Some i) = byte 0x4f ⊕ many u (i ∷ [])
sub_prefix false None = byte 0x50 ⊕ many u []
sub_prefix false (Some i) = byte 0x50 ⊕ many u (i ∷ [])

-- a sub type
abbrev pub sub_type : SubType → Piece
sub_type t = sub_prefix t.is_final t.supertype ⊕ composite t.composite_type

-- a recursion group: one sub type by itself, and any other number of them as a list
abbrev pub rec_type : List SubType → Piece
rec_type [] = byte 0x4e ⊕ many sub_type []
rec_type (t ∷ []) = sub_type t
rec_type (t ∷ s ∷ ts) = byte 0x4e ⊕ many sub_type (t ∷ s ∷ ts)
