-- Module types as far as they were judged.
use Rattle.std.specs.Prelude.{◌≡◌, ℕ, ◌+◌, ◌<◌, ◌≤◌, List, [], ◌∷◌, map, length}
use Rattle.std.specs.List.{filter}
use Rattle.smith_format.specs.declared.types.EntityType.{EntityType}
use Rattle.smith_format.specs.declared.types.ExportKind.{ExportKind}
use Rattle.smith_format.specs.declared.types.ExportKind.TheVariants as kind
use Rattle.smith_syntax.specs.Entries.{CoreEntry, ModuleDecl}
use Rattle.smith_syntax.specs.ModuleTypes.{is_of_kind}
use Rattle.smith_tree.specs.Demands.{Demands, Keeps}
use Rattle.smith_tree.specs.Facts.{FactScope}
use Rattle.smith_tree.specs.Sizes.{imported_of_kind, size_bound}
use Rattle.smith_validate.specs.declared.core_types.Module.{Module}

-- the core types of a scope
abbrev pub entries_in : FactScope → List CoreEntry
entries_in s = map (λ f. f.entry) s.core_types

-- 1 if it is of that kind, or else 0
abbrev pub one_of_kind : ExportKind → EntityType → ℕ
one_of_kind k e = length (filter (is_of_kind k) (e ∷ []))

-- It is below the bounds.
pub record IsSmallModule (m : Module) : Type 0 where
  pub size : m.size < size_bound
  pub memories : m.memories ≤ 100
  pub tables : m.tables ≤ 100

-- It is below the ones that are asked, with that much more.
pub record Fits (d : Demands) (m : Module) (size memories tables : ℕ) : Type 0 where
  pub size_fits : Keeps d.sizes (m.size + size < size_bound)
  pub memories_fit : Keeps d.memories (m.memories + memories ≤ 100)
  pub tables_fit : Keeps d.tables (m.tables + tables ≤ 100)

-- So much was added.
pub record Grows (old new : Module) (size memories tables : ℕ) : Type 0 where
  pub size_is : new.size ≡ old.size + size
  pub memories_are : new.memories ≡ old.memories + memories
  pub tables_are : new.tables ≡ old.tables + tables

abbrev pub memories_in : ModuleDecl → ℕ
memories_in d = imported_of_kind kind.Memory (d ∷ [])

abbrev pub tables_in : ModuleDecl → ℕ
tables_in d = imported_of_kind kind.Table (d ∷ [])
