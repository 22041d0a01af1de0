-- The sections of components, one place of which is changed (Binary.md, component definitions). Custom sections have no places inside, and a core
-- module has some only if it has the two sections that are generated, and no others.
use Rattle.std.specs.Prelude.{ℕ, ◌+◌, List, ◌∷◌, Option, Some, None}
use Rattle.std.specs.Option.{option_map}
use Rattle.smith_format.specs.CoreTypes.{Function}
use Rattle.smith_format.specs.declared.types.MemoryType.{MemoryType}
use Rattle.smith_core.specs.StandInText.{StandIn, stand_in_text}
use Rattle.smith_syntax.specs.Entries.{CoreEntry, Entry, ImportEntry}
use Rattle.smith_tree.specs.Tree.{Canon, ExportEntry, Part, Tree, canons, component, core_module, core_types, custom, ends, exports, first, imports}
use Rattle.smith_tree.specs.Tree.{lift, lower, parts_of, tree_of, types}
use Rattle.smith_change.specs.Alternatives.{index_alternative, memory_alternative, name_alternative}
use Rattle.smith_change.specs.CoreTypes.{core_changed, core_places, function_changed, function_places}
use Rattle.smith_read.specs.ModuleSections.{stand_in_at}
use Rattle.smith_change.specs.Rows.{again_name, entry_alternative, first_or, in_turn, row_changed, row_places, unnamed}
use Rattle.smith_change.specs.Types.{entry_changed, entry_places, extern_changed}

-- a canonical function: its indexes

abbrev pub canon_places : Canon → ℕ
canon_places (lift c t) = 2
canon_places (lower f) = 1

abbrev pub canon_changed : ℕ → ℕ → Canon → Option Canon
canon_changed a k (lift c t) =
    first_or (option_map (λ i. lift i t) (index_alternative a c)) (λ j. option_map (λ i. lift c i) (index_alternative a t)) k
canon_changed a k (lower f) = option_map lower (index_alternative a f)

-- an import: the name, the sort, and the index

abbrev pub import_places : ImportEntry → ℕ
import_places i = 3

abbrev pub import_changed : ℕ → ℕ → ImportEntry → Option ImportEntry
import_changed a k i = option_map (λ e. record { name = e.0; to = e.1 }) (extern_changed a k (i.name, i.to))

abbrev pub import_again : ImportEntry → Option ImportEntry
import_again i = Some (record i { name = again_name })

-- an export: the name, and the index

abbrev pub export_places : ExportEntry → ℕ
export_places e = 2

abbrev pub export_changed : ℕ → ℕ → ExportEntry → Option ExportEntry
export_changed a k e =
    first_or (option_map (λ n. record e { name = n }) (name_alternative a e.name)) (λ j. option_map (λ i. record e { func = i }) (index_alternative a e.func))
    k

abbrev pub export_again : ExportEntry → Option ExportEntry
export_again e = Some (record e { name = again_name })

-- the function types and the memories of a core module

abbrev pub memory_places : MemoryType → ℕ
memory_places m = 1

abbrev pub memory_changed : ℕ → ℕ → MemoryType → Option MemoryType
memory_changed a k m = memory_alternative a m

abbrev pub functions_places : List Function → ℕ
functions_places = row_places function_places

abbrev pub functions_changed : ℕ → ℕ → List Function → Option (List Function)
functions_changed = row_changed function_places function_changed unnamed

abbrev pub memories_places : List MemoryType → ℕ
memories_places = row_places memory_places

abbrev pub memories_changed : ℕ → ℕ → List MemoryType → Option (List MemoryType)
memories_changed = row_changed memory_places memory_changed unnamed

abbrev pub stand_in_places : StandIn → ℕ
stand_in_places s = functions_places s.types + memories_places s.memories

abbrev pub stand_in_changed : ℕ → ℕ → StandIn → Option StandIn
stand_in_changed a k s =
    in_turn (functions_places s.types) (λ j. option_map (λ ts. record s { types = ts }) (functions_changed a j s.types))
    (λ j. option_map (λ ms. record s { memories = ms }) (memories_changed a j s.memories)) k

abbrev pub module_places : List ℕ → ℕ
module_places text = elim (stand_in_at text) [ None ↦ 0 | Some s ↦ stand_in_places s ]

-- the bytes of what is changed, if it has an encoding
abbrev pub spelled : Option StandIn → Option (List ℕ)
spelled None = None
spelled (Some s) = stand_in_text s

abbrev pub module_changed : ℕ → ℕ → List ℕ → Option (List ℕ)
module_changed a k text = elim (stand_in_at text) [ None ↦ None | Some s ↦ spelled (stand_in_changed a k s) ]

-- lists of entries

abbrev pub core_types_places : List CoreEntry → ℕ
core_types_places = row_places core_places

abbrev pub core_types_changed : ℕ → ℕ → List CoreEntry → Option (List CoreEntry)
core_types_changed = row_changed core_places core_changed unnamed

abbrev pub types_places : List Entry → ℕ
types_places = row_places entry_places

abbrev pub types_changed : ℕ → ℕ → List Entry → Option (List Entry)
types_changed = row_changed entry_places entry_changed unnamed

abbrev pub canons_places : List Canon → ℕ
canons_places = row_places canon_places

abbrev pub canons_changed : ℕ → ℕ → List Canon → Option (List Canon)
canons_changed = row_changed canon_places canon_changed unnamed

abbrev pub imports_places : List ImportEntry → ℕ
imports_places = row_places import_places

abbrev pub imports_changed : ℕ → ℕ → List ImportEntry → Option (List ImportEntry)
imports_changed = row_changed import_places import_changed import_again

abbrev pub exports_places : List ExportEntry → ℕ
exports_places = row_places export_places

abbrev pub exports_changed : ℕ → ℕ → List ExportEntry → Option (List ExportEntry)
exports_changed = row_changed export_places export_changed export_again

-- sections

abbrev mutual
  pub part_places : Part → ℕ
  part_places (custom name contents) = 0
  part_places (core_module text) = module_places text
  part_places (core_types ts) = core_types_places ts
  part_places (component t) = places t
  part_places (types ts) = types_places ts
  part_places (canons fs) = canons_places fs
  part_places (imports is) = imports_places is
  part_places (exports es) = exports_places es

  -- how many places a component has
  pub places : Tree → ℕ
  places ends = 0
  places (first p t) = 1 + (part_places p + places t)

abbrev mutual
  pub part_changed : ℕ → ℕ → Part → Option Part
  part_changed a k (custom name contents) = None
  part_changed a k (core_module text) = option_map core_module (module_changed a k text)
  part_changed a k (core_types ts) = option_map core_types (core_types_changed a k ts)
  part_changed a k (component t) = option_map component (sections_changed a k t)
  part_changed a k (types ts) = option_map types (types_changed a k ts)
  part_changed a k (canons fs) = option_map canons (canons_changed a k fs)
  part_changed a k (imports is) = option_map imports (imports_changed a k is)
  part_changed a k (exports es) = option_map exports (exports_changed a k es)

  pub sections_changed : ℕ → ℕ → Tree → Option Tree
  sections_changed a k ends = None
  sections_changed a k (first p t) =
      first_or (option_map tree_of (entry_alternative unnamed a (p ∷ parts_of t)))
      (in_turn (part_places p) (λ j. option_map (λ q. first q t) (part_changed a j p)) (λ j. option_map (λ u. first p u) (sections_changed a j t))) k
