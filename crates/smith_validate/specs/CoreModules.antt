-- What the bytes of a core module begin with.
use Rattle.std.specs.Prelude.{◌≡◌, ℕ, List, ◌++◌, Some}
use Rattle.smith_core.specs.Preamble.{core_preamble}
use Rattle.smith_format.specs.Piece.{◌⊕◌, bytes}
use Rattle.smith_tree.specs.CoreModules.{section}

abbrev pub HasPreamble : List ℕ → Type 0
HasPreamble text = (rest : List ℕ) × (text ≡ core_preamble ++ rest)

-- No section begins there.
abbrev pub HasNoSection : List ℕ → Type 0
HasNoSection sections = (id : ℕ) (contents after : List ℕ) → ¬ (section (id, contents) ⊕ bytes after ≡ Some sections)
