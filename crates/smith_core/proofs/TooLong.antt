-- Core modules that have no encoding.
use Rattle.std.proofs.Common.{◌≡◌, ℕ, zero, suc, ◌^◌, ◌<◌, ◌≤◌, ◌⊎◌, inl, inr, ◌↔◌, Bool, true, false, List, [], ◌∷◌, length, refl, subst, sym, arith, Some}
use Rattle.std.proofs.Common.{None, Option, string_bytes}
use Rattle.std.specs.Prelude.{if◌then◌else◌}
use Rattle.std.specs.List.{slice_get, slice_range, zip}
use Rattle.std.specs.declared.vec.Vec.{Vec}
use Rattle.std.specs.declared.alloc.Global.{Global}
use Rattle.std.specs.declared.string.String.{String}
use Rattle.std.proofs.lemmas.Bool.{false≢true}
use Rattle.smith_format.specs.CoreTypes.{core_val, ref_val}
use Rattle.smith_format.specs.Shown.{shown_func, shown_import}
use Rattle.smith_format.specs.Entities.{entity, memory_type, table_type, tag_type, core_import, kind_byte}
use Rattle.smith_format.specs.Piece.{Piece, ◌⊕◌, byte, bytes, u, raw, framed, text, many}
use Rattle.smith_format.specs.TooLong.{IsTooLarge, NoBytes, ListTooLong, ContentsTooLong, RefTooLong, ValTooLong}
use Rattle.smith_format.specs.declared.types.ExportKind.{ExportKind}
use Rattle.smith_format.specs.declared.types.GlobalType.{GlobalType}
use Rattle.smith_format.specs.declared.types.Import.{Import}
use Rattle.smith_format.specs.declared.types.RefType.{RefType}
use Rattle.smith_format.specs.declared.types.TableType.{TableType}
use Rattle.smith_format.specs.declared.types.ValType.{ValType}
use Rattle.smith_format.proofs.Sizes.{u_none_where}
use Rattle.smith_format.proofs.TooLong.{join_none, after_bytes, before_bytes, bytes_none, each_none_where, many_none_where, many_none_among, name_none}
use Rattle.smith_format.proofs.TooLong.{raw_none, framed_none_where, sized_none_by, ref_none_where, val_none_where, function_none_where, table_none}
use Rattle.smith_format.proofs.TooLong.{memory_none, global_none, tag_none, entity_none_where}
use Rattle.smith_core.specs.Module.{binary_order, section_id, is_written, last, start, contents, section, module_text}
use Rattle.smith_core.specs.Preamble.{core_preamble}
use Rattle.smith_core.specs.Parts.{Agree, NamesTable}
use Rattle.smith_core.specs.Segments.{expression, table, named_type, export, offset, functions_front, expressions_front, element, element_of, local}
use Rattle.smith_core.specs.Segments.{instructions, code_text, data_form, data_segment}
use Rattle.smith_core.specs.SubTypes.{storage, field, composite, sub_prefix, sub_type, rec_type}
use Rattle.smith_core.specs.TooLong.{IndexTooLong, StorageTooLong, CompositeTooLong, SubTypeTooLong, CoreImportTooLong, TableTooLong, NamedTooLong}
use Rattle.smith_core.specs.TooLong.{ExportTooLong, OffsetTooLong, PlaceTooLong, ItemsTooLong, ElementTooLong, InstructionsTooLong, CodeTooLong}
use Rattle.smith_core.specs.TooLong.{DataFormTooLong, DataTooLong, SectionTooLong, ModuleTooLong}
use Rattle.smith_core.specs.declared.module.parts.ModuleParts.{ModuleParts}
use Rattle.smith_core.specs.declared.module.sections.SectionKind.{SectionKind}
use Rattle.smith_core.specs.declared.module.sections.SectionKind.TheVariants.{Types, Imports, Functions, Tables, Memories, Tags, Globals, Exports, Start}
use Rattle.smith_core.specs.declared.module.sections.SectionKind.TheVariants.{Elements, DataCount, Code, Data}
use Rattle.smith_core.specs.declared.module.segments.Code.{Code as Body}
use Rattle.smith_core.specs.declared.module.segments.DataSegment.{DataSegment}
use Rattle.smith_core.specs.declared.module.segments.DataSegmentKind.{DataSegmentKind}
use Rattle.smith_core.specs.declared.module.segments.DataSegmentKind.TheVariants as data_kind
use Rattle.smith_core.specs.declared.module.segments.ElementKind.{ElementKind}
use Rattle.smith_core.specs.declared.module.segments.ElementKind.TheVariants.{Active, Passive, Declared}
use Rattle.smith_core.specs.declared.module.segments.ElementSegment.{ElementSegment}
use Rattle.smith_core.specs.declared.module.segments.Elements.{Elements as Items}
use Rattle.smith_core.specs.declared.module.segments.Elements.TheVariants as items
use Rattle.smith_core.specs.declared.module.segments.Instructions.{Instructions}
use Rattle.smith_core.specs.declared.module.segments.Instructions.TheVariants.{Generated, Arbitrary}
use Rattle.smith_core.specs.declared.module.segments.Offset.{Offset}
use Rattle.smith_core.specs.declared.module.segments.Offset.TheVariants.{Const32, Const64, Global as GlobalOffset}
use Rattle.smith_core.specs.declared.module.types.CompositeType.{CompositeType}
use Rattle.smith_core.specs.declared.module.types.CompositeType.TheVariants.{Func, Array, Struct}
use Rattle.smith_core.specs.declared.module.types.FieldType.{FieldType}
use Rattle.smith_core.specs.declared.module.types.StorageType.{StorageType}
use Rattle.smith_core.specs.declared.module.types.StorageType.TheVariants.{I8, I16, Val}
use Rattle.smith_core.specs.declared.module.types.SubType.{SubType}
use Rattle.smith_core.proofs.Segments.{framed_raw}

-- a list of one: its count never exceeds
one_none : {A : Type 0} (f : A → Piece) {P : A → Type 0} → ((x : A) → (f x ≡ None) ↔ P x) → (x : A)
    → (f x ≡ None) ↔ ListTooLong P (x ∷ [])
one_none f {P} one x = (λ e. inr (0, x, omega arith, refl, (one x).0 e), back)
  where
    back : ListTooLong P (x ∷ []) → f x ≡ None
    back (inl l) = absurd (let h : 2 ^ 32 ≤ 1 = l in omega (arith, h))
    back (inr (zero, y, h, e, p)) = (one x).1 (subst P (sym e) p)
    back (inr (suc k, y, h, e, p)) = absurd (omega (arith, h))

-- nor does a small number
small_none : (n : ℕ) → n < 2 ^ 32 → (u n ≡ None) ↔ ⊥
small_none n h = (λ e. let l = (u_none_where n).0 e in absurd (omega (arith, h, l)), λ h. absurd h)

-- types
storage_none : (t : StorageType) → (storage t ≡ None) ↔ StorageTooLong t
storage_none I8 = bytes_none (0x78 ∷ [])
storage_none I16 = bytes_none (0x77 ∷ [])
storage_none (Val t) = val_none_where t

field_none : (f : FieldType) → (field f ≡ None) ↔ StorageTooLong f.element
field_none f = before_bytes (storage f.element) _ (storage_none f.element)

composite_none : (t : CompositeType) → (composite t ≡ None) ↔ CompositeTooLong t
composite_none (Func f) = function_none_where (shown_func f)
composite_none (Array f) = after_bytes (0x5e ∷ []) (field f) (field_none f)
composite_none (Struct fs) = after_bytes (0x5f ∷ []) (many field fs.items) (many_none_where field field_none fs.items)

index_none : (i : ℕ) → (many u (i ∷ []) ≡ None) ↔ IsTooLarge i
index_none i = (λ e. elim (parts.0 e) [ inl h ↦ absurd h | inr h ↦ h ], λ h. parts.1 (inr h))
  where
    parts : (many u (i ∷ []) ≡ None) ↔ (⊥ ⊎ IsTooLarge i)
    parts = join_none (u 1) (u i ⊕ Some []) (small_none 1 (omega arith)) (before_bytes (u i) [] (u_none_where i))

no_index_none : (many u [] ≡ None) ↔ ⊥
no_index_none = before_bytes (u 0) [] (small_none 0 (omega arith))

prefix_none : (b : Bool) (i : Option ℕ) → (sub_prefix b i ≡ None) ↔ IndexTooLong i
prefix_none true None = bytes_none []
prefix_none true (Some i) = after_bytes (0x4f ∷ []) (many u (i ∷ [])) (index_none i)
prefix_none false None = after_bytes (0x50 ∷ []) (many u []) no_index_none
prefix_none false (Some i) = after_bytes (0x50 ∷ []) (many u (i ∷ [])) (index_none i)

sub_none : (t : SubType) → (sub_type t ≡ None) ↔ SubTypeTooLong t
sub_none t =
    join_none (sub_prefix t.is_final t.supertype) (composite t.composite_type)
    (prefix_none t.is_final t.supertype) (composite_none t.composite_type)

rec_none : (ts : List SubType) → (rec_type ts ≡ None) ↔ ListTooLong SubTypeTooLong ts
rec_none [] = after_bytes (0x4e ∷ []) (many sub_type []) (many_none_where sub_type sub_none [])
rec_none (t ∷ []) = one_none sub_type sub_none t
rec_none (t ∷ s ∷ ts) =
    after_bytes (0x4e ∷ []) (many sub_type (t ∷ s ∷ ts)) (many_none_where sub_type sub_none (t ∷ s ∷ ts))

-- imports, tables, globals and exports
import_none : (i : Import) → (core_import (shown_import i) ≡ None) ↔ CoreImportTooLong i
import_none i =
    join_none (text (string_bytes i.module)) _ (name_none (string_bytes i.module))
    (join_none (text (string_bytes i.name)) (entity i.entity_type)
    (name_none (string_bytes i.name)) (entity_none_where i.entity_type))

expression_none : (e : Vec ℕ Global) → (expression e ≡ None) ↔ NoBytes e.items
expression_none e = before_bytes (raw e.items) (0x0b ∷ []) (raw_none e.items)

filled_none : (t : TableType × Option (Vec ℕ Global)) → (table t ≡ None) ↔ TableTooLong t
filled_none (t, None) = table_none t
filled_none (t, Some e) =
    after_bytes (0x40 ∷ 0x00 ∷ []) (table_type t ⊕ expression e)
    (join_none (table_type t) (expression e) (table_none t) (expression_none e))

named_none : (ts : List GlobalType) (i : ℕ) → i < length ts
    → (named_type (slice_get ts i) ≡ None) ↔ NamedTooLong (slice_get ts i)
named_none [] i h = absurd (omega (arith, h))
named_none (g ∷ gs) zero h = global_none g
named_none (g ∷ gs) (suc i) h = named_none gs i (omega (arith, h))

export_none : (e : String Global × ExportKind × ℕ) → (export e ≡ None) ↔ ExportTooLong e
export_none e =
    join_none (text (string_bytes e.0)) _ (name_none (string_bytes e.0))
    (after_bytes (kind_byte e.1 ∷ []) (u e.2) (u_none_where e.2))

start_none : (i : Option ℕ) → (start i ≡ None) ↔ IndexTooLong i
start_none None = bytes_none []
start_none (Some i) = u_none_where i

-- segments and code
offset_none : (o : Offset) → (offset o ≡ None) ↔ OffsetTooLong o
offset_none (Const32 n) = after_bytes (0x41 ∷ []) _ (before_bytes _ (0x0b ∷ []) (bytes_none _))
offset_none (Const64 n) = after_bytes (0x42 ∷ []) _ (before_bytes _ (0x0b ∷ []) (bytes_none _))
offset_none (GlobalOffset g) = after_bytes (0x23 ∷ []) _ (before_bytes (u g) (0x0b ∷ []) (u_none_where g))

-- one that names no table
unnamed : {P Q : Type 0} → P ↔ Q → P ↔ (⊥ ⊎ Q)
unnamed f = (λ p. inr (f.0 p), λ h. elim h [ inl n ↦ absurd n | inr q ↦ f.1 q ])

-- three reasons, however they are grouped
module _ {A B C : Type 0} where
  to_right : (A ⊎ B) ⊎ C → A ⊎ (B ⊎ C)
  to_right (inl (inl a)) = inl a
  to_right (inl (inr b)) = inr (inl b)
  to_right (inr c) = inr (inr c)

  to_left : A ⊎ (B ⊎ C) → (A ⊎ B) ⊎ C
  to_left (inl a) = inl (inl a)
  to_left (inr (inl b)) = inl (inr b)
  to_left (inr (inr c)) = inr c

  grouped : {P : Type 0} → P ↔ ((A ⊎ B) ⊎ C) → P ↔ (A ⊎ (B ⊎ C))
  grouped f = (λ p. to_right (f.0 p), λ h. f.1 (to_left h))

  ungrouped : {P : Type 0} → P ↔ (A ⊎ (B ⊎ C)) → P ↔ ((A ⊎ B) ⊎ C)
  ungrouped f = (λ p. to_left (f.0 p), λ h. f.1 (to_right h))

functions_none : (k : ElementKind) → (functions_front k ≡ None) ↔ PlaceTooLong k
functions_none (Active None o) = unnamed (after_bytes (0 ∷ []) (offset o) (offset_none o))
functions_none Passive = after_bytes (1 ∷ []) (byte 0) (bytes_none (0 ∷ []))
functions_none (Active (Some x) o) =
    after_bytes (2 ∷ []) _ (join_none (u x) _ (u_none_where x) (before_bytes (offset o) (0 ∷ []) (offset_none o)))
functions_none Declared = after_bytes (3 ∷ []) (byte 0) (bytes_none (0 ∷ []))

-- for a segment of expressions, with the type of them
expressions_none : (k : ElementKind) (t : RefType) → NamesTable k t
    → (expressions_front k t ≡ None) ↔ (PlaceTooLong k ⊎ RefTooLong t)
expressions_none (Active None o) t h = rw h (with_type (unnamed (after_bytes (4 ∷ []) (offset o) (offset_none o))))
  where
    with_type : {P Q : Type 0} → P ↔ Q → P ↔ (Q ⊎ ⊥)
    with_type f = (λ p. inl (f.0 p), λ h. elim h [ inl q ↦ f.1 q | inr n ↦ absurd n ])
expressions_none Passive t h = unnamed (after_bytes (5 ∷ []) (ref_val t) (ref_none_where t))
expressions_none (Active (Some x) o) t h =
    after_bytes (6 ∷ []) _ (ungrouped
    (join_none (u x) _ (u_none_where x) (join_none (offset o) (ref_val t) (offset_none o) (ref_none_where t))))
expressions_none Declared t h = unnamed (after_bytes (7 ∷ []) (ref_val t) (ref_none_where t))

element_of_none : (k : ElementKind) (t : RefType) (es : Items) → NamesTable k t
    → (element_of k t es ≡ None) ↔ (PlaceTooLong k ⊎ ItemsTooLong t es)
element_of_none k t (items.Functions fs) h =
    join_none (functions_front k) (many u fs.items) (functions_none k) (many_none_where u u_none_where fs.items)
element_of_none k t (items.Expressions es) h =
    grouped
    (join_none (expressions_front k t) (many expression es.items)
    (expressions_none k t h) (many_none_where expression expression_none es.items))

element_none : (e : ElementSegment) → NamesTable e.kind e.ty → (element e ≡ None) ↔ ElementTooLong e
element_none e h = element_of_none e.kind e.ty e.items h

local_none : (t : ValType) → (local t ≡ None) ↔ ValTooLong t
local_none t = after_bytes (1 ∷ []) (core_val t) (val_none_where t)

instructions_none : (i : Instructions) → (instructions i ≡ None) ↔ InstructionsTooLong i
instructions_none (Generated e) = expression_none e
instructions_none (Arbitrary e) = raw_none e.items

code_none : (c : Body) → (code_text c ≡ None) ↔ CodeTooLong c
code_none c =
    framed_none_where (many local c.locals.items ⊕ instructions c.instructions)
    (join_none (many local c.locals.items) (instructions c.instructions)
    (many_none_where local local_none c.locals.items) (instructions_none c.instructions))

form_none : (k : DataSegmentKind) → (data_form k ≡ None) ↔ DataFormTooLong k
form_none (data_kind.Active zero o) =
    (λ e. inr (zero_none.0 e), λ h. elim h [ inl l ↦ absurd (no_zero l) | inr q ↦ zero_none.1 q ])
  where
    no_zero : 2 ^ 32 ≤ 0 → ⊥
    no_zero l = omega (arith, l)

    zero_none : (byte 0 ⊕ offset o ≡ None) ↔ OffsetTooLong o
    zero_none = after_bytes (0 ∷ []) (offset o) (offset_none o)
form_none data_kind.Passive = bytes_none (1 ∷ [])
form_none (data_kind.Active (suc m) o) =
    after_bytes (2 ∷ []) _ (join_none (u (suc m)) (offset o) (u_none_where (suc m)) (offset_none o))

data_none : (d : DataSegment) → (data_segment d ≡ None) ↔ DataTooLong d
data_none d = join_none (data_form d.kind) (framed (raw d.init.items)) (form_none d.kind) (init_none d.init.items)
  where
    init_none : (bs : List ℕ) → (framed (raw bs) ≡ None) ↔ (IsTooLarge (length bs) ⊎ NoBytes bs)
    init_none bs = rw (framed_raw bs) (join_none (u (length bs)) (raw bs) (u_none_where (length bs)) (raw_none bs))

-- the contents of a section, one line for each
module _ (m : ModuleParts) (a : Agree m) where
  global_with : (g : ℕ × Vec ℕ Global) → g.0 < length m.globals.items
      → (named_type (slice_get m.globals.items g.0) ⊕ expression g.1 ≡ None)
      ↔ (NamedTooLong (slice_get m.globals.items g.0) ⊎ NoBytes g.1.items)
  global_with g h = join_none _ (expression g.1) (named_none m.globals.items g.0 h) (expression_none g.1)

  contents_none : (k : SectionKind) → (contents m k ≡ None) ↔ SectionTooLong m k
  contents_none Types = many_none_where _ (λ g. rec_none (slice_range m.types.items g.0 g.1)) m.rec_groups.items
  contents_none Imports = many_none_where _ import_none m.imports.items
  contents_none Functions = many_none_where u u_none_where (last m.num_defined_funcs m.funcs.items)
  contents_none Tables = many_none_where table filled_none
      (zip (last (length m.defined_tables.items) m.tables.items) m.defined_tables.items)
  contents_none Memories = many_none_where memory_type memory_none (last m.num_defined_memories m.memories.items)
  contents_none Tags = many_none_where tag_type tag_none (last m.num_defined_tags m.tags.items)
  contents_none Globals = many_none_among _ _ global_with m.defined_globals.items a.globals
  contents_none Exports = many_none_where export export_none m.exports.items
  contents_none Start = start_none m.start
  contents_none Elements = many_none_among _ element element_none m.elems.items a.unnamed
  contents_none DataCount = u_none_where (length m.data_segments.items)
  contents_none Code = many_none_where code_text code_none m.code.items
  contents_none Data = many_none_where data_segment data_none m.data_segments.items

  if_written : {X : Type 0} (b : Bool) (p : Piece) → (p ≡ None) ↔ X
      → ((if b then p else bytes []) ≡ None) ↔ ((b ≡ true) × X)
  if_written true p f = (λ e. (refl, f.0 e), λ h. f.1 h.1)
  if_written false p f = (λ e. absurd (let z : Some [] ≡ None = e in cc), λ h. absurd (false≢true h.0))

  section_none : (k : SectionKind)
      → (section m k ≡ None) ↔ ((is_written m k ≡ true) × (SectionTooLong m k ⊎ ContentsTooLong (contents m k)))
  section_none k =
      if_written (is_written m k) _ (sized_none_by (section_id k) (contents m k) (contents_none k))

  pub module_none : (module_text m ≡ None) ↔ ModuleTooLong m
  module_none = after_bytes core_preamble _ (each_none_where (section m) section_none binary_order)
