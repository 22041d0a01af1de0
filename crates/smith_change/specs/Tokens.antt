-- A component as tokens, in the order of its bytes (Binary.md; core specification, Binary Format). Lengths are none, since they follow from the rest.
use Rattle.std.specs.Prelude.{ℕ, Bool, false, List, [], ◌∷◌, ◌++◌, length, Option}
use Rattle.std.specs.List.{flat_map}
use Rattle.smith_format.specs.CoreTypes.{Function}
use Rattle.smith_format.specs.declared.types.EntityType.{EntityType}
use Rattle.smith_format.specs.declared.types.EntityType.TheVariants.{Func, Table, Memory, Global, Tag}
use Rattle.smith_format.specs.declared.types.MemoryType.{MemoryType}
use Rattle.smith_format.specs.declared.types.RefType.{RefType}
use Rattle.smith_format.specs.declared.types.ValType.{ValType}
use Rattle.smith_core.specs.StandInText.{StandIn}
use Rattle.smith_syntax.specs.Entries.{Case, CoreEntry, Decl, Decls, DefValType, Entry, Field, ImportEntry, ModuleDecl, Signature, decl_count}
use Rattle.smith_syntax.specs.Entries.{aliases, core_func, declares, exports as module_export, imports as module_import}
use Rattle.smith_syntax.specs.Entries as entry
use Rattle.smith_syntax.specs.Grammar.{primvaltype}
use Rattle.smith_syntax.specs.declared.deftype.ComponentTypeRef.{ComponentTypeRef}
use Rattle.smith_syntax.specs.declared.deftype.ComponentTypeRef.TheVariants as to
use Rattle.smith_syntax.specs.declared.types.ComponentValType.{ComponentValType}
use Rattle.smith_tree.specs.Tree.{Canon, ExportEntry, Part, Tree, ends, first, lift, lower, parts_of}
use Rattle.smith_tree.specs.Tree as part
use Rattle.smith_change.specs.Alternatives.{ref_index}

pub data Token : Type 0 where
  -- a byte that says what follows
  code : ℕ → Token
  -- the number of the entries of a list
  count : ℕ → Token
  -- an index, or a count of scopes
  index : ℕ → Token
  name : List ℕ → Token
  -- bytes as they are: the contents of a custom section, or a core module
  raw : List ℕ → Token
  value : ComponentValType → Token
  -- a value type, or that there is none
  optional : Option ComponentValType → Token
  core_value : ValType → Token
  -- that it is a table, and what is in it
  table_of : RefType → Token
  -- whether they are shared, whether they have 64 bits, the minimum, and the maximum or none
  limits : Bool → Bool → ℕ → Option ℕ → Token
  mutable : Bool → Token

-- the number of entries, and then each
abbrev pub list_tokens : {A : Type 0} → (A → List Token) → List A → List Token
list_tokens tokens xs = count (length xs) ∷ flat_map tokens xs

-- types of values and of functions (Binary.md, defvaltype, functype)

abbrev pub field_tokens : Field → List Token
field_tokens f = name f.0 ∷ value f.1 ∷ []

abbrev pub case_tokens : Case → List Token
case_tokens c = name c.0 ∷ optional c.1 ∷ []

abbrev pub label_tokens : List ℕ → List Token
label_tokens n = name n ∷ []

abbrev pub value_tokens : ComponentValType → List Token
value_tokens v = value v ∷ []

abbrev pub defined_tokens : DefValType → List Token
defined_tokens (entry.primitive_type p) = code (primvaltype p) ∷ []
defined_tokens (entry.record_type fs) = code 0x72 ∷ list_tokens field_tokens fs
defined_tokens (entry.variant_type cs) = code 0x71 ∷ list_tokens case_tokens cs
defined_tokens (entry.list_type v) = code 0x70 ∷ value v ∷ []
defined_tokens (entry.tuple_type vs) = code 0x6f ∷ list_tokens value_tokens vs
defined_tokens (entry.flags_type ns) = code 0x6e ∷ list_tokens label_tokens ns
defined_tokens (entry.enum_type ns) = code 0x6d ∷ list_tokens label_tokens ns
defined_tokens (entry.option_type v) = code 0x6b ∷ value v ∷ []
defined_tokens (entry.result_type ok err) = code 0x6a ∷ optional ok ∷ optional err ∷ []

abbrev pub signature_tokens : Signature → List Token
signature_tokens g = code 0x40 ∷ list_tokens field_tokens g.params ++ optional g.result ∷ []

-- core types (core specification, Binary Format, Types; Binary.md, core:type)

abbrev pub core_value_tokens : ValType → List Token
core_value_tokens v = core_value v ∷ []

abbrev pub function_tokens : Function → List Token
function_tokens f = code 0x60 ∷ list_tokens core_value_tokens f.0 ++ list_tokens core_value_tokens f.1

abbrev pub entity_tokens : EntityType → List Token
entity_tokens (Func i) = code 0x00 ∷ index i ∷ []
entity_tokens (Table t) = table_of t.element_type ∷ limits false t.table64 t.minimum t.maximum ∷ []
entity_tokens (Memory m) = code 0x02 ∷ limits m.shared m.memory64 m.minimum m.maximum ∷ []
entity_tokens (Global g) = code 0x03 ∷ core_value g.val_type ∷ mutable g.mutable ∷ []
entity_tokens (Tag t) = code 0x04 ∷ index t.func_type_idx ∷ []

abbrev pub module_decl_tokens : ModuleDecl → List Token
module_decl_tokens (module_import m n e) = code 0x00 ∷ name m ∷ name n ∷ entity_tokens e
module_decl_tokens (declares f) = code 0x01 ∷ function_tokens f
module_decl_tokens (aliases n i) = code 0x02 ∷ index n ∷ index i ∷ []
module_decl_tokens (module_export n e) = code 0x03 ∷ name n ∷ entity_tokens e

abbrev pub core_tokens : CoreEntry → List Token
core_tokens (core_func f) = function_tokens f
core_tokens (entry.core_module ds) = code 0x50 ∷ list_tokens module_decl_tokens ds

-- what an import or an export is of (Binary.md, externdesc)

abbrev pub sort_code : ComponentTypeRef → ℕ
sort_code (to.Module i) = 0x00
sort_code (to.Func i) = 0x01
sort_code (to.TypeEq i) = 0x03
sort_code (to.Component i) = 0x04
sort_code (to.Instance i) = 0x05

abbrev pub extern_tokens : List ℕ → ComponentTypeRef → List Token
extern_tokens n r = name n ∷ code (sort_code r) ∷ index (ref_index r) ∷ []

-- types, and what types of components and instances declare (Binary.md, deftype)
abbrev mutual
  pub entry_tokens : Entry → List Token
  entry_tokens (entry.defined t) = defined_tokens t
  entry_tokens (entry.function g) = signature_tokens g
  entry_tokens (entry.component_type ds) = code 0x41 ∷ count (decl_count ds) ∷ decls_tokens ds
  entry_tokens (entry.instance_type ds) = code 0x42 ∷ count (decl_count ds) ∷ decls_tokens ds

  pub decl_tokens : Decl → List Token
  decl_tokens (entry.core_type_decl t u) = code 0x00 ∷ core_tokens t
  decl_tokens (entry.type_decl e) = code 0x01 ∷ entry_tokens e
  decl_tokens (entry.type_alias n i u) = code 0x02 ∷ code 0x03 ∷ index n ∷ index i ∷ []
  decl_tokens (entry.core_type_alias n i u) = code 0x02 ∷ code 0x10 ∷ index n ∷ index i ∷ []
  decl_tokens (entry.import_decl n u r) = code 0x03 ∷ extern_tokens n r
  decl_tokens (entry.export_decl n u r) = code 0x04 ∷ extern_tokens n r

  pub decls_tokens : Decls → List Token
  decls_tokens entry.no_decls = []
  decls_tokens (entry.then_decls d ds) = decl_tokens d ++ decls_tokens ds

-- core modules of the two sections that are generated (core specification, Binary Format, Modules)

abbrev pub memory_tokens : MemoryType → List Token
memory_tokens m = limits m.shared m.memory64 m.minimum m.maximum ∷ []

abbrev pub stand_in_tokens : StandIn → List Token
stand_in_tokens s = list_tokens function_tokens s.types ++ list_tokens memory_tokens s.memories

-- sections (Binary.md, component definitions)

abbrev pub canon_tokens : Canon → List Token
canon_tokens (lift c t) = code 0x00 ∷ index c ∷ index t ∷ []
canon_tokens (lower f) = code 0x01 ∷ index f ∷ []

abbrev pub import_tokens : ImportEntry → List Token
import_tokens i = extern_tokens i.name i.to

abbrev pub export_tokens : ExportEntry → List Token
export_tokens e = name e.name ∷ index e.func ∷ []

-- The number of the sections of a component has no bytes of its own.
abbrev mutual
  pub part_tokens : Part → List Token
  part_tokens (part.custom n contents) = code 0 ∷ name n ∷ raw contents ∷ []
  part_tokens (part.core_module text) = code 1 ∷ raw text ∷ []
  part_tokens (part.core_types ts) = code 3 ∷ list_tokens core_tokens ts
  part_tokens (part.component t) = code 4 ∷ count (length (parts_of t)) ∷ sections_tokens t
  part_tokens (part.types ts) = code 7 ∷ list_tokens entry_tokens ts
  part_tokens (part.canons fs) = code 8 ∷ list_tokens canon_tokens fs
  part_tokens (part.imports is) = code 10 ∷ list_tokens import_tokens is
  part_tokens (part.exports es) = code 11 ∷ list_tokens export_tokens es

  pub sections_tokens : Tree → List Token
  sections_tokens ends = []
  sections_tokens (first p t) = part_tokens p ++ sections_tokens t

abbrev pub tokens : Tree → List Token
tokens t = count (length (parts_of t)) ∷ sections_tokens t
