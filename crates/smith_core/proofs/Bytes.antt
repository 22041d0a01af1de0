-- The bytes of a core module are bytes, and begin with the core preamble.
use Rattle.std.proofs.Common.{◌≡◌, ℕ, zero, suc, ◌<◌, Bool, true, false, List, [], ◌∷◌, ◌++◌, length, refl, ap, sym, ◌∙◌, arith, Option, Some, None}
use Rattle.std.proofs.Common.{string_bytes}
use Rattle.std.specs.List.{AllByRecursion, slice_get, slice_range, zip}
use Rattle.std.specs.declared.alloc.Global.{Global}
use Rattle.std.specs.declared.string.String.{String}
use Rattle.std.specs.declared.vec.Vec.{Vec}
use Rattle.smith_format.specs.Shown.{shown_func, shown_import}
use Rattle.smith_format.specs.Entities.{memory_type, tag_type, kind_byte}
use Rattle.smith_format.specs.Piece.{Piece, ◌⊕◌, byte, bytes, u, each, many}
use Rattle.smith_format.specs.declared.types.ExportKind.{ExportKind}
use Rattle.smith_format.specs.declared.types.ExportKind.TheVariants as export_kind
use Rattle.smith_format.specs.declared.types.GlobalType.{GlobalType}
use Rattle.smith_format.specs.declared.types.RefType.{RefType}
use Rattle.smith_format.specs.declared.types.TableType.{TableType}
use Rattle.smith_format.specs.declared.types.ValType.{ValType}
use Rattle.smith_format.proofs.Piece.{parts_are}
use Rattle.smith_core.specs.Module.{binary_order, section_id, is_written, last, start, contents, section, module_text}
use Rattle.smith_core.specs.Preamble.{core_preamble}
use Rattle.smith_core.specs.Segments.{expression, table, named_type, export, offset, functions_front, expressions_front, element_of, element, local}
use Rattle.smith_core.specs.Segments.{instructions, code_text, data_form, data_segment}
use Rattle.smith_core.specs.SubTypes.{storage, field, composite, sub_prefix, sub_type, rec_type}
use Rattle.smith_core.specs.declared.module.parts.ModuleParts.{ModuleParts}
use Rattle.smith_core.specs.declared.module.sections.SectionKind.{SectionKind}
use Rattle.smith_core.specs.declared.module.sections.SectionKind.TheVariants as kind
use Rattle.smith_core.specs.declared.module.segments.Code.{Code}
use Rattle.smith_core.specs.declared.module.segments.DataSegment.{DataSegment}
use Rattle.smith_core.specs.declared.module.segments.DataSegmentKind.{DataSegmentKind}
use Rattle.smith_core.specs.declared.module.segments.DataSegmentKind.TheVariants as data_kind
use Rattle.smith_core.specs.declared.module.segments.ElementKind.{ElementKind}
use Rattle.smith_core.specs.declared.module.segments.ElementKind.TheVariants.{Active, Passive, Declared}
use Rattle.smith_core.specs.declared.module.segments.ElementSegment.{ElementSegment}
use Rattle.smith_core.specs.declared.module.segments.Elements.{Elements}
use Rattle.smith_core.specs.declared.module.segments.Elements.TheVariants.{Functions, Expressions}
use Rattle.smith_core.specs.declared.module.segments.Instructions.{Instructions}
use Rattle.smith_core.specs.declared.module.segments.Instructions.TheVariants.{Generated, Arbitrary}
use Rattle.smith_core.specs.declared.module.segments.Offset.{Offset}
use Rattle.smith_core.specs.declared.module.segments.Offset.TheVariants.{Const32, Const64, Global as GlobalOffset}
use Rattle.smith_core.specs.declared.module.types.CompositeType.{CompositeType}
use Rattle.smith_core.specs.declared.module.types.CompositeType.TheVariants.{Func, Array, Struct}
use Rattle.smith_core.specs.declared.module.types.FieldType.{FieldType}
use Rattle.smith_core.specs.declared.module.types.StorageType.{StorageType}
use Rattle.smith_core.specs.declared.module.types.StorageType.TheVariants.{I8, I16, Val}
use Rattle.smith_core.specs.declared.module.types.SubType.{SubType}
use Rattle.smith_format.proofs.TooLong.{small_raw}
use Rattle.smith_core.proofs.BytesTypes.{AreBytes, are_none, are_some, are_byte, are_after, are_join, are_choice, are_u, are_s, are_raw, are_text, are_framed}
use Rattle.smith_core.proofs.BytesTypes.{are_sized, are_each, are_many, are_bit, are_core_val, are_ref_val, are_core_function, are_table_type, are_memory_type}
use Rattle.smith_core.proofs.BytesTypes.{are_global_type, are_tag_type, are_core_import}

-- types
are_storage : (t : StorageType) → AreBytes (storage t)
are_storage I8 = are_byte 0x78 (omega arith)
are_storage I16 = are_byte 0x77 (omega arith)
are_storage (Val t) = are_core_val t

are_field : (f : FieldType) → AreBytes (field f)
are_field f = are_join (are_storage f.element) (are_bit f.mutable)

are_composite : (c : CompositeType) → AreBytes (composite c)
are_composite (Func f) = are_core_function (shown_func f)
are_composite (Array f) = are_after 0x5e (omega arith) (are_field f)
are_composite (Struct fs) = are_after 0x5f (omega arith) (are_many field are_field fs.items)

are_sub_prefix : (final : Bool) (super : Option ℕ) → AreBytes (sub_prefix final super)
are_sub_prefix true None = are_some [] tt
are_sub_prefix true (Some i) = are_after 0x4f (omega arith) (are_many u are_u (i ∷ []))
are_sub_prefix false None = are_after 0x50 (omega arith) (are_many u are_u [])
are_sub_prefix false (Some i) = are_after 0x50 (omega arith) (are_many u are_u (i ∷ []))

are_sub_type : (t : SubType) → AreBytes (sub_type t)
are_sub_type t = are_join (are_sub_prefix t.is_final t.supertype) (are_composite t.composite_type)

are_group : (ts : List SubType) → AreBytes (byte 0x4e ⊕ many sub_type ts)
are_group ts = are_after 0x4e (omega arith) (are_many sub_type are_sub_type ts)

are_rec_type : (ts : List SubType) → AreBytes (rec_type ts)
are_rec_type [] = are_group []
are_rec_type (t ∷ []) = are_sub_type t
are_rec_type (t ∷ r ∷ ts) = are_group (t ∷ r ∷ ts)

-- segments, and what else a section lists
are_expression : (e : Vec ℕ Global) → AreBytes (expression e)
are_expression e = are_join (are_raw e.items) (are_byte 0x0b (omega arith))

are_table : (t : TableType × Option (Vec ℕ Global)) → AreBytes (table t)
are_table (t, None) = are_table_type t
are_table (t, Some e) =
    are_join (are_some (0x40 ∷ 0x00 ∷ []) (small_raw (0x40 ∷ 0x00 ∷ []) refl))
    (are_join (are_table_type t) (are_expression e))

are_named_type : (g : Option GlobalType) → AreBytes (named_type g)
are_named_type None = are_none
are_named_type (Some g) = are_global_type g

are_kind_byte : (k : ExportKind) → AreBytes (byte (kind_byte k))
are_kind_byte export_kind.Func = are_byte 0x00 (omega arith)
are_kind_byte export_kind.Table = are_byte 0x01 (omega arith)
are_kind_byte export_kind.Memory = are_byte 0x02 (omega arith)
are_kind_byte export_kind.Global = are_byte 0x03 (omega arith)
are_kind_byte export_kind.Tag = are_byte 0x04 (omega arith)

are_export : (e : String Global × ExportKind × ℕ) → AreBytes (export e)
are_export e = are_join (are_text (string_bytes e.0)) (are_join (are_kind_byte e.1) (are_u e.2))

-- what is between an instruction's first byte and its end
are_ended : (n : ℕ) {p : Piece} → n < 256 → AreBytes p → AreBytes (byte n ⊕ p ⊕ byte 0x0b)
are_ended n h f = are_after n h (are_join f (are_byte 0x0b (omega arith)))

are_offset : (o : Offset) → AreBytes (offset o)
are_offset (Const32 n) = are_ended 0x41 (omega arith) (are_s n)
are_offset (Const64 n) = are_ended 0x42 (omega arith) (are_s n)
are_offset (GlobalOffset g) = are_ended 0x23 (omega arith) (are_u g)

are_functions_front : (k : ElementKind) → AreBytes (functions_front k)
are_functions_front (Active None o) = are_after 0 (omega arith) (are_offset o)
are_functions_front Passive = are_after 1 (omega arith) (are_byte 0x00 (omega arith))
are_functions_front (Active (Some x) o) =
    are_after 2 (omega arith) (are_join (are_u x) (are_join (are_offset o) (are_byte 0x00 (omega arith))))
are_functions_front Declared = are_after 3 (omega arith) (are_byte 0x00 (omega arith))

are_expressions_front : (k : ElementKind) (t : RefType) → AreBytes (expressions_front k t)
are_expressions_front (Active None o) t = are_after 4 (omega arith) (are_offset o)
are_expressions_front Passive t = are_after 5 (omega arith) (are_ref_val t)
are_expressions_front (Active (Some x) o) t =
    are_after 6 (omega arith) (are_join (are_u x) (are_join (are_offset o) (are_ref_val t)))
are_expressions_front Declared t = are_after 7 (omega arith) (are_ref_val t)

are_element_of : (k : ElementKind) (t : RefType) (e : Elements) → AreBytes (element_of k t e)
are_element_of k t (Functions fs) = are_join (are_functions_front k) (are_many u are_u fs.items)
are_element_of k t (Expressions es) = are_join (are_expressions_front k t) (are_many expression are_expression es.items)

are_element : (e : ElementSegment) → AreBytes (element e)
are_element e = are_element_of e.kind e.ty e.items

are_local : (t : ValType) → AreBytes (local t)
are_local t = are_after 0x01 (omega arith) (are_core_val t)

are_instructions : (e : Instructions) → AreBytes (instructions e)
are_instructions (Generated e) = are_expression e
are_instructions (Arbitrary e) = are_raw e.items

are_code : (c : Code) → AreBytes (code_text c)
are_code c = are_framed (are_join (are_many local are_local c.locals.items) (are_instructions c.instructions))

are_data_form : (k : DataSegmentKind) → AreBytes (data_form k)
are_data_form (data_kind.Active zero o) = are_after 0 (omega arith) (are_offset o)
are_data_form data_kind.Passive = are_byte 1 (omega arith)
are_data_form (data_kind.Active (suc m) o) = are_after 2 (omega arith) (are_join (are_u (suc m)) (are_offset o))

are_data_segment : (d : DataSegment) → AreBytes (data_segment d)
are_data_segment d = are_join (are_data_form d.kind) (are_framed (are_raw d.init.items))

-- sections
are_start : (f : Option ℕ) → AreBytes (start f)
are_start None = are_some [] tt
are_start (Some f) = are_u f

are_contents : (m : ModuleParts) (k : SectionKind) → AreBytes (contents m k)
are_contents m kind.Types = are_many _ (λ g. are_rec_type (slice_range m.types.items g.0 g.1)) m.rec_groups.items
are_contents m kind.Imports = are_many _ (λ i. are_core_import (shown_import i)) m.imports.items
are_contents m kind.Functions = are_many u are_u (last m.num_defined_funcs m.funcs.items)
are_contents m kind.Tables =
    are_many table are_table (zip (last (length m.defined_tables.items) m.tables.items) m.defined_tables.items)
are_contents m kind.Memories = are_many memory_type are_memory_type (last m.num_defined_memories m.memories.items)
are_contents m kind.Tags = are_many tag_type are_tag_type (last m.num_defined_tags m.tags.items)
are_contents m kind.Globals =
    are_many _ (λ g. are_join (are_named_type (slice_get m.globals.items g.0)) (are_expression g.1))
    m.defined_globals.items
are_contents m kind.Exports = are_many export are_export m.exports.items
are_contents m kind.Start = are_start m.start
are_contents m kind.Elements = are_many element are_element m.elems.items
are_contents m kind.DataCount = are_u (length m.data_segments.items)
are_contents m kind.Code = are_many code_text are_code m.code.items
are_contents m kind.Data = are_many data_segment are_data_segment m.data_segments.items

id_below : (k : SectionKind) → section_id k < 256
id_below kind.Types = omega arith
id_below kind.Imports = omega arith
id_below kind.Functions = omega arith
id_below kind.Tables = omega arith
id_below kind.Memories = omega arith
id_below kind.Tags = omega arith
id_below kind.Globals = omega arith
id_below kind.Exports = omega arith
id_below kind.Start = omega arith
id_below kind.Elements = omega arith
id_below kind.DataCount = omega arith
id_below kind.Code = omega arith
id_below kind.Data = omega arith

are_section : (m : ModuleParts) (k : SectionKind) → AreBytes (section m k)
are_section m k =
    are_choice (is_written m k) (are_sized (section_id k) (id_below k) (are_contents m k)) (are_some [] tt)

preamble_are : AreBytes (bytes core_preamble)
preamble_are = are_some core_preamble (small_raw core_preamble refl)

pub module_bytes : (m : ModuleParts) (b : List ℕ) → module_text m ≡ Some b → AllByRecursion (λ n. n < 256) b
module_bytes m b e = (are_join preamble_are (are_each (section m) (are_section m) binary_order)).law b e

pub module_begins : (m : ModuleParts) (b : List ℕ) → module_text m ≡ Some b
    → (rest : List ℕ) × (b ≡ core_preamble ++ rest)
module_begins m b e =
    let z = parts_are (bytes core_preamble) (each (section m) binary_order) b e in
    let f : core_preamble ≡ z.left = let y = z.p_is in cc in
    (z.right, z.is ∙ ap (λ a. a ++ z.right) (sym f))
