-- Sections of types, of imports and of exports as the program makes them.
use Rattle.std.specs.Prelude.{◌≡◌, ℕ, List, ◌∷◌, [], ◌++◌, map, Option, Some, None, length, ◌+◌, ◌≤◌}
use Rattle.smith_format.specs.declared.config.Config.{Config}
use Rattle.smith_scopes.specs.Scopes.{own_marked, Contents, outer_marked}
use Rattle.smith_syntax.specs.Marked.{Marked}
use Rattle.smith_syntax.specs.Shown.{import_shown}
use Rattle.smith_syntax.specs.declared.deftype.Import.{Import}
use Rattle.smith_types.specs.Declarations.{NamedExtern}
use Rattle.smith_types.specs.MakingTypes.{HoldsExterns}
use Rattle.smith_tree.specs.Offers.{marked_with_imports, with_imports, with_exports}
use Rattle.smith_component.specs.BuilderView.{stack_of}
use Rattle.smith_tree.specs.Open.{Open}
use Rattle.smith_component.specs.SectionValues.{NoImportValue, ReadsImportValue, extern_of, externs_of}
use Rattle.smith_component.specs.Sound.{Totalled}
use Rattle.smith_component.specs.Tables.{Tabled, IsKnown}
use Rattle.smith_component.specs.declared.builder.Progress.{Progress}
use Rattle.smith_component.specs.declared.builder.tables.Tables.{Tables}
use Rattle.smith_component.specs.declared.builder.totals.TreeTotals.{TreeTotals}
use Rattle.smith_input.specs.Loops.{Loop}
use Rattle.smith_syntax.specs.Scope.{Scope}
use Rattle.smith_component.specs.ExportReading.{NoExport, ReadsExport}
use Rattle.smith_tree.specs.Shown.{shown_export}
use Rattle.smith_tree.specs.Tree.{ExportEntry, Tree}
use Rattle.smith_tree.specs.Marking.{marked_inner}
use Rattle.smith_tree.specs.declared.entries.Export.{Export}

-- There are as many scopes, and the ones around the innermost one are as they were.
pub record KeepsAround (old new : List Contents) : Type 0 where
  pub outer : outer_marked new ≡ outer_marked old
  pub depth : length new ≡ length old

-- The scopes alone have changed, and of them the innermost one.
pub record GrowsScope (old new : Progress) : Type 0 where
  pub only : new ≡ record old { scopes = new.scopes }
  pub around : KeepsAround old.scopes new.scopes

-- The scope, the totals and the tables are the open components', when a section has these imports. The sets of names are the names of the
-- imports before it and of these, and of their URLs.
pub record ImportsState (config : Config) (stack : Open) (before : List NamedExtern) (is : List Import) (own : Marked) (totals : TreeTotals)
    (tables : Tables) : Type 0 where
  pub scope_is : own ≡ marked_with_imports config stack (map import_shown is)
  pub totalled : Totalled totals (with_imports stack (map import_shown is))
  pub tabled : Tabled tables (with_imports stack (map import_shown is)).inner
  pub externs : HoldsExterns tables.imports (before ++ map extern_of is)

-- an import that is read and counted, or none
abbrev pub ImportsOne : Config → Open → List NamedExtern → List Import → Marked → TreeTotals → Tables → List ℕ → Option Import → List ℕ → Type 0
ImportsOne config stack before is own totals tables b None rest =
    NoImportValue config stack is b rest is × ImportsState config stack before is own totals tables
ImportsOne config stack before is own totals tables b (Some i) rest =
    ReadsImportValue config stack before is b i rest (is ++ i ∷ []) × ImportsState config stack before (is ++ i ∷ []) own totals tables

-- Imports that are read: the scopes, the totals and the tables alone have changed, and are the ones when a section has these imports
-- too.
pub record Imported (old : Progress) (is : List Import) (new : Progress) : Type 0 where
  pub only : new ≡ record old { scopes = new.scopes; totals = new.totals; inner = record old.inner { tables = new.inner.tables } }
  pub around : KeepsAround old.scopes new.scopes
  pub counted : ImportsState old.config (stack_of old) (externs_of old.inner.sections.items) is (own_marked new.scopes) new.totals new.inner.tables

-- The scope and the tables are the component's, when a section has these exports.
pub record ExportsState (config : Config) (outer : List Tree) (t : Tree) (es : List ExportEntry) (own : Marked) (tables : Tables) : Type 0 where
  pub scope_is : own ≡ marked_inner config outer (with_exports t es)
  pub tabled : Tabled tables (with_exports t es)

-- an export that is read and added, or none
abbrev pub ExportsOne : Config → List Tree → Tree → List ExportEntry → Marked → Tables → List ℕ → Option Export → List ℕ → Type 0
ExportsOne config outer t es own tables b None rest = NoExport config outer t es b rest es × ExportsState config outer t es own tables
ExportsOne config outer t es own tables b (Some e) rest =
    ReadsExport config outer t es b (shown_export e) rest (es ++ shown_export e ∷ []) × ExportsState config outer t (es ++ shown_export e ∷ []) own tables

-- at most that many exports that are read and added
pub record ExportsAll (config : Config) (outer : List Tree) (t : Tree) (max : ℕ) (own : Marked) (tables : Tables) (b : List ℕ) (es : List ExportEntry)
    (rest : List ℕ) : Type 0 where
  pub reads : Loop (NoExport config outer t) (ReadsExport config outer t) config.loop_bits 0 max 0 [] b es rest es
  pub state : ExportsState config outer t es own tables

-- At most one function is added, the types of all are there, and the names of imports stay.
pub record GrowsTables (own : Scope) (old new : Tables) : Type 0 where
  pub known : IsKnown own new
  pub imports : new.imports ≡ old.imports
  pub most : length new.functions.items ≤ length old.functions.items + 1
