-- Which parts make a module: those that agree with one another.
use Rattle.std.specs.Prelude.{◌≡◌, ℕ, ◌<◌, ◌≤◌, false, List, [], ◌∷◌, length, Some, None}
use Rattle.std.specs.List.{AllByRecursion}
use Rattle.smith_format.specs.declared.types.RefType.{RefType}
use Rattle.smith_format.specs.declared.types.RefType.TheVariants.{FuncRef}
use Rattle.smith_core.specs.declared.module.parts.ModuleParts.{ModuleParts}
use Rattle.smith_core.specs.declared.module.segments.ElementKind.{ElementKind}
use Rattle.smith_core.specs.declared.module.segments.ElementKind.TheVariants.{Active, Passive, Declared}
use Rattle.smith_core.specs.declared.module.segments.Elements.{Elements}
use Rattle.smith_core.specs.declared.module.segments.Elements.TheVariants.{Functions, Expressions}

-- Groups tile from one place to another: each begins where the one before it ends, and none ends before it begins.
abbrev pub Tiles : List (ℕ × ℕ) → ℕ → ℕ → Type 0
Tiles [] low high = low ≡ high
Tiles (g ∷ gs) low high = (g.0 ≡ low) × (g.0 ≤ g.1) × Tiles gs g.1 high

-- A segment of functions is one of function references.
abbrev pub AgreesWith : Elements → RefType → Type 0
AgreesWith (Functions fs) t = t ≡ FuncRef
AgreesWith (Expressions es) t = Unit {0}

-- An active segment that names no table is one of function references too.
abbrev pub NamesTable : ElementKind → RefType → Type 0
NamesTable (Active None o) t = t ≡ FuncRef
NamesTable (Active (Some x) o) t = Unit {0}
NamesTable Passive t = Unit {0}
NamesTable Declared t = Unit {0}

-- No more is defined than there is, the groups hold each type once and in order, defined globals are there, and segments of functions,
-- and active segments that name no table, are of function references.
pub record Agree (m : ModuleParts) : Type 0 where
  pub funcs : m.num_defined_funcs ≤ length m.funcs.items
  pub tables : length m.defined_tables.items ≤ length m.tables.items
  pub memories : m.num_defined_memories ≤ length m.memories.items
  pub tags : m.num_defined_tags ≤ length m.tags.items
  pub groups : Tiles m.rec_groups.items 0 (length m.types.items)
  pub globals : AllByRecursion (λ g. g.0 < length m.globals.items) m.defined_globals.items
  pub functions : AllByRecursion (λ e. AgreesWith e.items e.ty) m.elems.items
  pub unnamed : AllByRecursion (λ e. NamesTable e.kind e.ty) m.elems.items

-- parts of a module without sections
pub record IsEmpty (m : ModuleParts) : Type 0 where
  pub types : (m.should_encode_types ≡ false) × (m.types.items ≡ []) × (m.rec_groups.items ≡ [])
  pub imports : (m.should_encode_imports ≡ false) × (m.imports.items ≡ [])
  pub functions : (m.funcs.items ≡ []) × (m.num_defined_funcs ≡ 0)
  pub tables : (m.tables.items ≡ []) × (m.defined_tables.items ≡ [])
  pub memories : (m.memories.items ≡ []) × (m.num_defined_memories ≡ 0)
  pub tags : (m.tags.items ≡ []) × (m.num_defined_tags ≡ 0)
  pub globals : (m.globals.items ≡ []) × (m.defined_globals.items ≡ [])
  pub exports : m.exports.items ≡ []
  pub start : m.start ≡ None
  pub elements : m.elems.items ≡ []
  pub code : m.code.items ≡ []
  pub data_segments : (m.bulk_memory_enabled ≡ false) × (m.data_segments.items ≡ [])
