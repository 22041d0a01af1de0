-- How an import section is read.
use Rattle.std.specs.Prelude.{◌≡◌, ℕ, ◌-◌, true, false, List, [], ◌∷◌, ◌++◌, length, Option}
use Rattle.smith_input.specs.Loops.{Loop}
use Rattle.smith_format.specs.declared.config.Config.{Config}
use Rattle.smith_syntax.specs.Entries.{ImportEntry}
use Rattle.smith_syntax.specs.WellFormed.{names}
use Rattle.smith_types.specs.Declarations.{NamedExtern, ReadsNamedExtern}
use Rattle.smith_types.specs.References.{ReadsRef}
use Rattle.smith_tree.specs.Open.{Open}
use Rattle.smith_tree.specs.Tree.{imports_of}
use Rattle.smith_tree.specs.WellFormed.{import_names}
use Rattle.smith_tree.specs.Offers.{marked_with_imports, with_imports, totals_of, import_kinds}

-- An import after these of its section: what it is of, a name that is new among the component's imports, and a URL or none, which is
-- new among some of which a plain tree knows nothing.
pub record ReadsImport (config : Config) (stack : Open) (is : List ImportEntry) (bytes : List ℕ) (x : ImportEntry) (rest : List ℕ)
    (next : List ImportEntry) : Type 0 where
  pub mid : List ℕ
  pub so_far : List NamedExtern
  pub url : Option (List ℕ)
  pub of : ReadsRef config (marked_with_imports config stack is) (totals_of (with_imports stack is)) true false bytes x.to mid
  pub names_are : names so_far ≡ import_names (imports_of stack.inner ++ is)
  pub named : ReadsNamedExtern config so_far mid (x.name, url) rest
  pub next_is : next ≡ is ++ x ∷ []

-- The section ends when nothing can be imported.
abbrev pub NoImport : Config → Open → List ImportEntry → List ℕ → List ℕ → List ImportEntry → Type 0
NoImport config stack is bytes rest next = (import_kinds config stack is ≡ []) × (rest ≡ bytes) × (next ≡ is)

-- a section of at least that many imports, and of at most as many as the component may still have
abbrev pub ReadsImports : Config → ℕ → Open → List ℕ → List ImportEntry → List ℕ → Type 0
ReadsImports config min stack bytes is rest =
    Loop (NoImport config stack) (ReadsImport config stack) config.loop_bits min (config.max_imports - length (imports_of stack.inner)) 0 [] bytes is rest is
