-- How many imports and exports of a module type are of each kind, as the program keeps it.
use Rattle.std.specs.Prelude.{◌≡◌, ℕ, List, slice_index}
use Rattle.smith_format.specs.Entities.{kind_byte}
use Rattle.smith_format.specs.declared.types.ExportKind.{ExportKind}
use Rattle.smith_syntax.specs.Entries.{ModuleDecl}
use Rattle.smith_syntax.specs.ModuleTypes.{count_of_kind}

-- The counts, by the byte of a kind, are the counts of these declarations.
pub record AreCounts (counts : List ℕ) (ds : List ModuleDecl) : Type 0 where
  pub of_kind : (k : ExportKind) → slice_index counts (kind_byte k) ≡ count_of_kind k ds
