-- How types are spelled (Binary.md, type definitions), one line for each row.
use Rattle.std.specs.Prelude.{ℕ, Bool, true, false, List, [], ◌∷◌, Option, Some, None}
use Rattle.smith_format.specs.CoreTypes.{core_function}
use Rattle.smith_format.specs.Entities.{entity}
use Rattle.smith_format.specs.Piece.{Piece, ◌⊕◌, byte, bytes, text, many, s_index, u}
use Rattle.smith_syntax.specs.Entries.{Field, Case, Signature, ModuleDecl, imports, declares, aliases, exports}
use Rattle.smith_syntax.specs.Entries.{DefValType, primitive_type, record_type, variant_type, list_type, tuple_type, flags_type, enum_type, option_type}
use Rattle.smith_syntax.specs.Entries.{result_type}
use Rattle.smith_syntax.specs.Entries.{Entry, defined, function, component_type, instance_type, CoreEntry, core_func, core_module, ImportEntry}
use Rattle.smith_syntax.specs.Entries.{Decl, Decls, core_type_decl, type_decl, type_alias, core_type_alias, import_decl, export_decl, no_decls, then_decls}
use Rattle.smith_syntax.specs.Entries.{decl_count}
use Rattle.smith_syntax.specs.declared.deftype.ComponentTypeRef.{ComponentTypeRef}
use Rattle.smith_syntax.specs.declared.deftype.ComponentTypeRef.TheVariants as to
use Rattle.smith_syntax.specs.declared.types.ComponentValType.{ComponentValType}
use Rattle.smith_syntax.specs.declared.types.ComponentValType.TheVariants.{Primitive, Indexed}
use Rattle.smith_syntax.specs.declared.types.PrimitiveValType.{PrimitiveValType}
use Rattle.smith_syntax.specs.declared.types.PrimitiveValType.TheVariants as prim

abbrev pub primvaltype : PrimitiveValType → ℕ
primvaltype prim.Bool = 0x7f
primvaltype prim.S8 = 0x7e
primvaltype prim.U8 = 0x7d
primvaltype prim.S16 = 0x7c
primvaltype prim.U16 = 0x7b
primvaltype prim.S32 = 0x7a
primvaltype prim.U32 = 0x79
primvaltype prim.S64 = 0x78
primvaltype prim.U64 = 0x77
primvaltype prim.F32 = 0x76
primvaltype prim.F64 = 0x75
primvaltype prim.Char = 0x74
primvaltype prim.String = 0x73

abbrev pub valtype : ComponentValType → Piece
valtype (Primitive p) = byte (primvaltype p)
valtype (Indexed i) = s_index i

-- a value type that may be missing
abbrev pub maybe_valtype : Option ComponentValType → Piece
maybe_valtype None = byte 0x00
maybe_valtype (Some v) = byte 0x01 ⊕ valtype v

abbrev pub labelvaltype : Field → Piece
labelvaltype f = text f.0 ⊕ valtype f.1

abbrev pub case : Case → Piece
case c = text c.0 ⊕ maybe_valtype c.1 ⊕ byte 0x00

-- the result of a function
abbrev pub resultlist : Option ComponentValType → Piece
resultlist (Some v) = byte 0x00 ⊕ valtype v
resultlist None = bytes (0x01 ∷ 0x00 ∷ [])

abbrev pub defvaltype : DefValType → Piece
defvaltype (primitive_type p) = byte (primvaltype p)
defvaltype (record_type fs) = byte 0x72 ⊕ many labelvaltype fs
defvaltype (variant_type cs) = byte 0x71 ⊕ many case cs
defvaltype (list_type v) = byte 0x70 ⊕ valtype v
defvaltype (tuple_type vs) = byte 0x6f ⊕ many valtype vs
defvaltype (flags_type ns) = byte 0x6e ⊕ many text ns
defvaltype (enum_type ns) = byte 0x6d ⊕ many text ns
defvaltype (option_type v) = byte 0x6b ⊕ valtype v
defvaltype (result_type ok err) = byte 0x6a ⊕ maybe_valtype ok ⊕ maybe_valtype err

abbrev pub functype : Signature → Piece
functype s = byte 0x40 ⊕ many labelvaltype s.params ⊕ resultlist s.result

-- what a module type declares
abbrev pub moduledecl : ModuleDecl → Piece
moduledecl (imports m n e) = byte 0x00 ⊕ text m ⊕ text n ⊕ entity e
moduledecl (declares f) = byte 0x01 ⊕ core_function f
moduledecl (aliases count i) = bytes (0x02 ∷ 0x10 ∷ 0x01 ∷ []) ⊕ u count ⊕ u i
moduledecl (exports n e) = byte 0x03 ⊕ text n ⊕ entity e

-- a core type (Binary.md, core type definitions)
abbrev pub core_entry : CoreEntry → Piece
core_entry (core_func f) = core_function f
core_entry (core_module ds) = byte 0x50 ⊕ many moduledecl ds

-- what an import or an export is of
abbrev pub externdesc : ComponentTypeRef → Piece
externdesc (to.Module i) = bytes (0x00 ∷ 0x11 ∷ []) ⊕ u i
externdesc (to.Func i) = byte 0x01 ⊕ u i
externdesc (to.TypeEq i) = bytes (0x03 ∷ 0x00 ∷ []) ⊕ u i
externdesc (to.Component i) = byte 0x04 ⊕ u i
externdesc (to.Instance i) = byte 0x05 ⊕ u i

-- an import or an export: its name and what it is of
abbrev pub named_extern : List ℕ → ComponentTypeRef → Piece
named_extern name r = byte 0x00 ⊕ text name ⊕ externdesc r

-- an import among the declarations of a component type (true); an instance type (false) has none
abbrev pub importdecl : Bool → List ℕ → ComponentTypeRef → Piece
importdecl true name r = byte 0x03 ⊕ named_extern name r
importdecl false name r = None

-- Types, and the declarations of component types (true) and of instance types (false).
abbrev mutual
  pub entry : Entry → Piece
  entry (defined t) = defvaltype t
  entry (function s) = functype s
  entry (component_type ds) = byte 0x41 ⊕ u (decl_count ds) ⊕ decls true ds
  entry (instance_type ds) = byte 0x42 ⊕ u (decl_count ds) ⊕ decls false ds

  pub decl : Bool → Decl → Piece
  decl importing (core_type_decl t k) = byte 0x00 ⊕ core_entry t
  decl importing (type_decl e) = byte 0x01 ⊕ entry e
  decl importing (type_alias count i k) = bytes (0x02 ∷ 0x03 ∷ 0x02 ∷ []) ⊕ u count ⊕ u i
  decl importing (core_type_alias count i k) = bytes (0x02 ∷ 0x00 ∷ 0x10 ∷ 0x02 ∷ []) ⊕ u count ⊕ u i
  decl importing (import_decl name n r) = importdecl importing name r
  decl importing (export_decl name n r) = byte 0x04 ⊕ named_extern name r

  pub decls : Bool → Decls → Piece
  decls importing no_decls = Some []
  decls importing (then_decls d ds) = decl importing d ⊕ decls importing ds

-- an import of a component
abbrev pub import_entry : ImportEntry → Piece
import_entry i = named_extern i.name i.to
