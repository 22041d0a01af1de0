-- Core modules and their bytes (core specification, Binary Format, Modules).
use Rattle.std.specs.Prelude.{ℕ, ◌-◌, Bool, true, false, ◌&&◌, nat_lt, if◌then◌else◌, List, [], ◌∷◌, length, drop, Option, Some, None}
use Rattle.std.specs.List.{slice_get, slice_range, zip}
use Rattle.smith_format.specs.Entities.{memory_type, tag_type, core_import}
use Rattle.smith_format.specs.Shown.{shown_import}
use Rattle.smith_format.specs.Piece.{Piece, ◌⊕◌, bytes, u, each, many, sized}
use Rattle.smith_core.specs.Preamble.{core_preamble}
use Rattle.smith_core.specs.Segments.{expression, table, named_type, export, element, code_text, data_segment}
use Rattle.smith_core.specs.SubTypes.{rec_type}
use Rattle.smith_core.specs.declared.module.parts.ModuleParts.{ModuleParts}
use Rattle.smith_core.specs.declared.module.sections.SectionKind.{SectionKind}
use Rattle.smith_core.specs.declared.module.sections.SectionKind.TheVariants.{Types, Imports, Functions, Tables, Memories, Tags, Globals, Exports, Start}
use Rattle.smith_core.specs.declared.module.sections.SectionKind.TheVariants.{Elements, DataCount, Code, Data}

-- the sections in the order in which a module has them
abbrev pub binary_order : List SectionKind
binary_order =
    Types
    ∷ Imports
    ∷ Functions
    ∷ Tables
    ∷ Memories
    ∷ Tags
    ∷ Globals
    ∷ Exports
    ∷ Start
    ∷ Elements
    ∷ DataCount
    ∷ Code
    ∷ Data
    ∷ []

abbrev pub section_id : SectionKind → ℕ
section_id Types = 1
section_id Imports = 2
section_id Functions = 3
section_id Tables = 4
section_id Memories = 5
section_id Tags = 13
section_id Globals = 6
section_id Exports = 7
section_id Start = 8
section_id Elements = 9
section_id DataCount = 12
section_id Code = 10
section_id Data = 11

abbrev pub has_any : {A : Type 0} → List A → Bool
has_any [] = false
has_any (x ∷ xs) = true

abbrev pub is_there : {A : Type 0} → Option A → Bool
is_there None = false
is_there (Some x) = true

-- whether a section is written
abbrev pub is_written : ModuleParts → SectionKind → Bool
is_written m Types = m.should_encode_types
is_written m Imports = m.should_encode_imports
is_written m Functions = nat_lt 0 m.num_defined_funcs
is_written m Tables = has_any m.defined_tables.items
is_written m Memories = nat_lt 0 m.num_defined_memories
is_written m Tags = nat_lt 0 m.num_defined_tags
is_written m Globals = has_any m.globals.items
is_written m Exports = has_any m.exports.items
is_written m Start = is_there m.start
is_written m Elements = has_any m.elems.items
is_written m DataCount = m.bulk_memory_enabled && has_any m.data_segments.items
is_written m Code = has_any m.code.items
is_written m Data = has_any m.data_segments.items

-- that many items from the end: what is defined follows what is imported
abbrev pub last : {A : Type 0} → ℕ → List A → List A
last n xs = drop (length xs - n) xs

-- the function to start with, if there is one
abbrev pub start : Option ℕ → Piece
start None = bytes []
start (Some f) = u f

-- the contents of a section
abbrev pub contents : ModuleParts → SectionKind → Piece
contents m Types = many (λ g. rec_type (slice_range m.types.items g.0 g.1)) m.rec_groups.items
contents m Imports = many (λ i. core_import (shown_import i)) m.imports.items
contents m Functions = many u (last m.num_defined_funcs m.funcs.items)
contents m Tables = many table (zip (last (length m.defined_tables.items) m.tables.items) m.defined_tables.items)
contents m Memories = many memory_type (last m.num_defined_memories m.memories.items)
contents m Tags = many tag_type (last m.num_defined_tags m.tags.items)
contents m Globals = many (λ g. named_type (slice_get m.globals.items g.0) ⊕ expression g.1) m.defined_globals.items
contents m Exports = many export m.exports.items
contents m Start = start m.start
contents m Elements = many element m.elems.items
contents m DataCount = u (length m.data_segments.items)
contents m Code = many code_text m.code.items
contents m Data = many data_segment m.data_segments.items

-- a section, if it is written
abbrev pub section : ModuleParts → SectionKind → Piece
section m k = if is_written m k then sized (section_id k) (contents m k) else bytes []

-- the bytes of a module, or None if a length or a count in it is too long
abbrev pub module_text : ModuleParts → Piece
module_text m = bytes core_preamble ⊕ each (section m) binary_order
