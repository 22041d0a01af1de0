-- Which core modules have no encoding, since a count, an index or the length of a name, of a body, of a data segment or
-- of a section in them exceeds 4,294,967,295. Names that are not UTF-8, numbers that are not bytes, and bounds of
-- limits of more than 64 bits occur in no module of the program.
use Rattle.std.specs.Prelude.{◌≡◌, ◌⊎◌, ℕ, true, length, Option, Some, None, string_bytes}
use Rattle.std.specs.List.{Any, slice_get, slice_range, zip}
use Rattle.std.specs.declared.vec.Vec.{Vec}
use Rattle.std.specs.declared.alloc.Global.{Global}
use Rattle.std.specs.declared.string.String.{String}
use Rattle.smith_format.specs.Shown.{shown_func}
use Rattle.smith_format.specs.Piece.{◌⊕◌, many}
use Rattle.smith_format.specs.TooLong.{IsTooLarge, NameTooLong, NoBytes, ListTooLong, ContentsTooLong, RefTooLong, ValTooLong, FunctionTooLong, EntityTooLong}
use Rattle.smith_format.specs.TooLong.{MemoryTypeTooLong, TableTypeTooLong}
use Rattle.smith_format.specs.declared.types.ExportKind.{ExportKind}
use Rattle.smith_format.specs.declared.types.GlobalType.{GlobalType}
use Rattle.smith_format.specs.declared.types.Import.{Import}
use Rattle.smith_format.specs.declared.types.RefType.{RefType}
use Rattle.smith_format.specs.declared.types.TableType.{TableType}
use Rattle.smith_core.specs.Module.{binary_order, is_written, last, contents}
use Rattle.smith_core.specs.Segments.{local, instructions}
use Rattle.smith_core.specs.declared.module.parts.ModuleParts.{ModuleParts}
use Rattle.smith_core.specs.declared.module.sections.SectionKind.{SectionKind}
use Rattle.smith_core.specs.declared.module.sections.SectionKind.TheVariants.{Types, Imports, Functions, Tables, Memories, Tags, Globals, Exports, Start}
use Rattle.smith_core.specs.declared.module.sections.SectionKind.TheVariants.{Elements, DataCount, Code, Data}
use Rattle.smith_core.specs.declared.module.segments.Code.{Code as Body}
use Rattle.smith_core.specs.declared.module.segments.DataSegment.{DataSegment}
use Rattle.smith_core.specs.declared.module.segments.DataSegmentKind.{DataSegmentKind}
use Rattle.smith_core.specs.declared.module.segments.DataSegmentKind.TheVariants as data_kind
use Rattle.smith_core.specs.declared.module.segments.ElementKind.{ElementKind}
use Rattle.smith_core.specs.declared.module.segments.ElementKind.TheVariants.{Active, Passive, Declared}
use Rattle.smith_core.specs.declared.module.segments.ElementSegment.{ElementSegment}
use Rattle.smith_core.specs.declared.module.segments.Elements.{Elements as Items}
use Rattle.smith_core.specs.declared.module.segments.Elements.TheVariants as items
use Rattle.smith_core.specs.declared.module.segments.Instructions.{Instructions}
use Rattle.smith_core.specs.declared.module.segments.Instructions.TheVariants.{Generated, Arbitrary}
use Rattle.smith_core.specs.declared.module.segments.Offset.{Offset}
use Rattle.smith_core.specs.declared.module.segments.Offset.TheVariants.{Const32, Const64, Global as GlobalOffset}
use Rattle.smith_core.specs.declared.module.types.CompositeType.{CompositeType}
use Rattle.smith_core.specs.declared.module.types.CompositeType.TheVariants.{Func, Array, Struct}
use Rattle.smith_core.specs.declared.module.types.StorageType.{StorageType}
use Rattle.smith_core.specs.declared.module.types.StorageType.TheVariants.{I8, I16, Val}
use Rattle.smith_core.specs.declared.module.types.SubType.{SubType}

-- an index, if there is one
abbrev pub IndexTooLong : Option ℕ → Type 0
IndexTooLong None = ⊥
IndexTooLong (Some i) = IsTooLarge i

abbrev pub StorageTooLong : StorageType → Type 0
StorageTooLong I8 = ⊥
StorageTooLong I16 = ⊥
StorageTooLong (Val t) = ValTooLong t

abbrev pub CompositeTooLong : CompositeType → Type 0
CompositeTooLong (Func f) = FunctionTooLong (shown_func f)
CompositeTooLong (Array f) = StorageTooLong f.element
CompositeTooLong (Struct fs) = ListTooLong (λ f. StorageTooLong f.element) fs.items

abbrev pub SubTypeTooLong : SubType → Type 0
SubTypeTooLong t = IndexTooLong t.supertype ⊎ CompositeTooLong t.composite_type

-- an import, by the names of the module and of the item, and what the item is
abbrev pub CoreImportTooLong : Import → Type 0
CoreImportTooLong i =
    NameTooLong (string_bytes i.module) ⊎ (NameTooLong (string_bytes i.name) ⊎ EntityTooLong i.entity_type)

-- a table, and its initial value if it has one
abbrev pub TableTooLong : TableType × Option (Vec ℕ Global) → Type 0
TableTooLong (t, None) = TableTypeTooLong t
TableTooLong (t, Some e) = TableTypeTooLong t ⊎ NoBytes e.items

-- the type of a global, which is there if parts agree
abbrev pub NamedTooLong : Option GlobalType → Type 0
NamedTooLong None = ⊥
NamedTooLong (Some g) = ValTooLong g.val_type

abbrev pub ExportTooLong : String Global × ExportKind × ℕ → Type 0
ExportTooLong e = NameTooLong (string_bytes e.0) ⊎ IsTooLarge e.2

abbrev pub OffsetTooLong : Offset → Type 0
OffsetTooLong (Const32 n) = ⊥
OffsetTooLong (Const64 n) = ⊥
OffsetTooLong (GlobalOffset g) = IsTooLarge g

-- the index of the table that an element segment names, and the offset
abbrev pub PlaceTooLong : ElementKind → Type 0
PlaceTooLong (Active t o) = IndexTooLong t ⊎ OffsetTooLong o
PlaceTooLong Passive = ⊥
PlaceTooLong Declared = ⊥

-- the functions of an element segment, or the type and the expressions
abbrev pub ItemsTooLong : RefType → Items → Type 0
ItemsTooLong t (items.Functions fs) = ListTooLong IsTooLarge fs.items
ItemsTooLong t (items.Expressions es) = RefTooLong t ⊎ ListTooLong (λ e. NoBytes e.items) es.items

abbrev pub ElementTooLong : ElementSegment → Type 0
ElementTooLong e = PlaceTooLong e.kind ⊎ ItemsTooLong e.ty e.items

abbrev pub InstructionsTooLong : Instructions → Type 0
InstructionsTooLong (Generated e) = NoBytes e.items
InstructionsTooLong (Arbitrary e) = NoBytes e.items

-- the code of a function, by what is in it or by its length
abbrev pub CodeTooLong : Body → Type 0
CodeTooLong c =
    (ListTooLong ValTooLong c.locals.items ⊎ InstructionsTooLong c.instructions)
    ⊎ ContentsTooLong (many local c.locals.items ⊕ instructions c.instructions)

-- the index of a memory, and the offset
abbrev pub DataFormTooLong : DataSegmentKind → Type 0
DataFormTooLong (data_kind.Active m o) = IsTooLarge m ⊎ OffsetTooLong o
DataFormTooLong data_kind.Passive = ⊥

abbrev pub DataTooLong : DataSegment → Type 0
DataTooLong d = DataFormTooLong d.kind ⊎ (IsTooLarge (length d.init.items) ⊎ NoBytes d.init.items)

-- what is in a section
abbrev pub SectionTooLong : ModuleParts → SectionKind → Type 0
SectionTooLong m Types =
    ListTooLong (λ g. ListTooLong SubTypeTooLong (slice_range m.types.items g.0 g.1)) m.rec_groups.items
SectionTooLong m Imports = ListTooLong CoreImportTooLong m.imports.items
SectionTooLong m Functions = ListTooLong IsTooLarge (last m.num_defined_funcs m.funcs.items)
SectionTooLong m Tables =
    ListTooLong TableTooLong (zip (last (length m.defined_tables.items) m.tables.items) m.defined_tables.items)
SectionTooLong m Memories = ListTooLong MemoryTypeTooLong (last m.num_defined_memories m.memories.items)
SectionTooLong m Tags = ListTooLong (λ t. IsTooLarge t.func_type_idx) (last m.num_defined_tags m.tags.items)
SectionTooLong m Globals =
    ListTooLong (λ g. NamedTooLong (slice_get m.globals.items g.0) ⊎ NoBytes g.1.items) m.defined_globals.items
SectionTooLong m Exports = ListTooLong ExportTooLong m.exports.items
SectionTooLong m Start = IndexTooLong m.start
SectionTooLong m Elements = ListTooLong ElementTooLong m.elems.items
SectionTooLong m DataCount = IsTooLarge (length m.data_segments.items)
SectionTooLong m Code = ListTooLong CodeTooLong m.code.items
SectionTooLong m Data = ListTooLong DataTooLong m.data_segments.items

-- a section that is written, by what is in it or by its length
abbrev pub ModuleTooLong : ModuleParts → Type 0
ModuleTooLong m =
    Any (λ k. (is_written m k ≡ true) × (SectionTooLong m k ⊎ ContentsTooLong (contents m k))) binary_order
