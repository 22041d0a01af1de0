-- The text of components (Explainer.md, component definitions).
use Rattle.std.specs.Prelude.{ℕ, ◌+◌, List, [], drop, Option, Some, None, codes, decimal}
use Rattle.smith_core.specs.StandInText.{StandIn}
use Rattle.smith_format.specs.Piece.{Piece, ◌⊕◌, bytes}
use Rattle.smith_read.specs.Items.{items_in}
use Rattle.smith_read.specs.ModuleSections.{stand_in_at}
use Rattle.smith_tree.specs.Tree.{ExportEntry, Part, Tree, ends, first, custom, core_module, core_types, component, types, canons, imports, exports}
use Rattle.smith_print.specs.declared.spaces.IndexSpaces.{IndexSpaces}
use Rattle.smith_print.specs.CoreTypes.{after_core_type, after_memory, core_function_line, memory_line}
use Rattle.smith_print.specs.Externs.{canon_text, import_text}
use Rattle.smith_print.specs.Lines.{after_all, closed, entry_lines, lines}
use Rattle.smith_print.specs.Spaces.{after_canon, after_extern, nothing}
use Rattle.smith_print.specs.Types.{after_type, core_type_text, type_text}
use Rattle.smith_print.specs.Words.{◌⧺◌, deeper, item_line, quoted}

-- An export of a component function, which is the next one (Explainer.md, export definitions).
abbrev pub export_entry_text : ExportEntry → IndexSpaces → List ℕ
export_entry_text e s =
    codes "(export (;" ⧺ decimal s.functions ⧺ codes ";) " ⧺ quoted e.name ⧺ codes " (func " ⧺ decimal e.func ⧺ codes "))"

-- the index spaces after a section

abbrev pub after_function : IndexSpaces → IndexSpaces
after_function s = record s { functions = s.functions + 1 }

abbrev pub after_module : IndexSpaces → IndexSpaces
after_module s = record s { modules = s.modules + 1 }

abbrev pub after_component : IndexSpaces → IndexSpaces
after_component s = record s { components = s.components + 1 }

abbrev pub after_part : Part → IndexSpaces → IndexSpaces
after_part (custom name contents) s = s
after_part (core_module bs) s = after_module s
after_part (core_types ts) s = after_all (λ t. after_core_type) s ts
after_part (component t) s = after_component s
after_part (types ts) s = after_all (λ t. after_type) s ts
after_part (canons fs) s = after_all after_canon s fs
after_part (imports is) s = after_all (λ i. after_extern i.to) s is
after_part (exports es) s = after_all (λ e. after_function) s es

-- the function types and the memories of a core module (core specification, Text Format, Modules)
abbrev pub module_text : StandIn → ℕ → List ℕ
module_text m columns =
    closed columns (lines (λ f _. core_function_line f) (λ f. after_core_type) (deeper columns) nothing m.types
    ⧺ lines (λ t _. memory_line t) (λ t. after_memory) (deeper columns) nothing m.memories)

-- the head of a core module under its index
abbrev pub module_head_text : ℕ → IndexSpaces → List ℕ → List ℕ
module_head_text columns s offsets = item_line columns offsets ⧺ codes "(core module (;" ⧺ decimal s.modules ⧺ codes ";)"

-- A core module that has no others, under its index. Any other has no text.
abbrev pub core_module_text : Option StandIn → ℕ → IndexSpaces → List ℕ → Piece
core_module_text None columns s offsets = None
core_module_text (Some m) columns s offsets = bytes (module_head_text columns s offsets ⧺ module_text m columns)

-- what has such contents, if they have a text
abbrev pub closing : ℕ → Piece → Piece
closing columns None = None
closing columns (Some contents) = bytes (closed columns contents)

-- a custom section (core specification, Text Format, Custom Annotations)
abbrev pub custom_text : List ℕ → List ℕ → ℕ → List ℕ → List ℕ
custom_text name contents columns offsets =
    item_line columns offsets ⧺ codes "(@custom " ⧺ quoted name ⧺ codes " " ⧺ quoted contents ⧺ codes ")"

-- the head of a component under its index
abbrev pub head_text : ℕ → IndexSpaces → List ℕ → List ℕ
head_text columns s offsets = item_line columns offsets ⧺ codes "(component (;" ⧺ decimal s.components ⧺ codes ";)"

-- Sections, of which each item (`Items` of `smith_read`) stands behind the next of these offsets, if there are any.
abbrev mutual
  pub part_text : Part → ℕ → IndexSpaces → List ℕ → Piece
  part_text (custom name contents) columns s offsets = bytes (custom_text name contents columns offsets)
  part_text (core_module bs) columns s offsets = core_module_text (stand_in_at bs) columns s offsets
  part_text (core_types ts) columns s offsets = bytes (entry_lines core_type_text (λ t. after_core_type) columns s offsets ts)
  part_text (component t) columns s offsets =
      bytes (head_text columns s offsets) ⊕ closing columns (parts_text t (deeper columns) nothing (drop 1 offsets))
  part_text (types ts) columns s offsets = bytes (entry_lines type_text (λ t. after_type) columns s offsets ts)
  part_text (canons fs) columns s offsets = bytes (entry_lines (λ f _. canon_text f) after_canon columns s offsets fs)
  part_text (imports is) columns s offsets =
      bytes (entry_lines (λ i _. import_text i.name i.to) (λ i. after_extern i.to) columns s offsets is)
  part_text (exports es) columns s offsets = bytes (entry_lines (λ e _. export_entry_text e) (λ e. after_function) columns s offsets es)

  -- sections one after another, with the index spaces after those before them
  pub parts_text : Tree → ℕ → IndexSpaces → List ℕ → Piece
  parts_text ends columns s offsets = bytes []
  parts_text (first p t) columns s offsets = part_text p columns s offsets ⊕ parts_text t columns (after_part p s) (drop (items_in p) offsets)

-- The text of a whole component with these offsets before its items, or None if it has none: a core module in it has more than function types and
-- memories.
abbrev pub text_with : List ℕ → Tree → Piece
text_with offsets t = bytes (codes "(component") ⊕ closing 0 (parts_text t (deeper 0) nothing offsets) ⊕ bytes (codes "\n")

-- without offsets
abbrev pub text_of : Tree → Piece
text_of t = text_with [] t
