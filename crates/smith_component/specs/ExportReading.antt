-- How an export section is read.
use Rattle.std.specs.Prelude.{◌≡◌, ℕ, ◌-◌, List, [], ◌∷◌, ◌++◌, length}
use Rattle.smith_input.specs.Loops.{Loop}
use Rattle.smith_input.specs.Names.{ReadsNew}
use Rattle.smith_input.specs.Reading.{Reads}
use Rattle.smith_format.specs.declared.config.Config.{Config}
use Rattle.smith_tree.specs.Offers.{export_functions}
use Rattle.smith_tree.specs.Tree.{ExportEntry, Tree, exports_of}
use Rattle.smith_tree.specs.WellFormed.{export_names}

-- An export after these of its section: a choice among the component functions, with the ones that the section exports, and a name that is
-- new among the component's exports.
pub record ReadsExport (config : Config) (outer : List Tree) (t : Tree) (es : List ExportEntry) (bytes : List ℕ) (x : ExportEntry)
    (rest : List ℕ) (next : List ExportEntry) : Type 0 where
  pub mid : List ℕ
  pub of : Reads (length (export_functions config outer t es)) bytes x.func mid
  pub named : ReadsNew config.max_name_length (export_names (exports_of t ++ es)) mid x.name rest
  pub next_is : next ≡ es ++ x ∷ []

-- The section ends when there is no component function, or no room for one more.
abbrev pub NoExport : Config → List Tree → Tree → List ExportEntry → List ℕ → List ℕ → List ExportEntry → Type 0
NoExport config outer t es bytes rest next = (export_functions config outer t es ≡ []) × (rest ≡ bytes) × (next ≡ es)

-- a section of at most as many exports as the component may still have
abbrev pub ReadsExports : Config → List Tree → Tree → List ℕ → List ExportEntry → List ℕ → Type 0
ReadsExports config outer t bytes es rest =
    Loop (NoExport config outer t) (ReadsExport config outer t) config.loop_bits 0 (config.max_exports - length (exports_of t)) 0 [] bytes es rest es
