-- A bound of wasmparser's own on what a core module has.
use Rattle.std.specs.Prelude.{◌≡◌, ℕ, ◌≤◌, List, Some}
use Rattle.smith_core.specs.Preamble.{core_preamble}
use Rattle.smith_format.specs.Piece.{Piece, ◌⊕◌, bytes, each, sized, u}

-- a section of any contents: its id, and these (core specification, Binary Format, Modules, Sections)
abbrev pub section : ℕ × List ℕ → Piece
section s = sized s.0 (bytes s.1)

-- A list after its count has at most 100 entries (core specification, Binary Format, Conventions, Lists).
abbrev pub CountsFew : List ℕ → Type 0
CountsFew contents = (count : ℕ) (entries : List ℕ) → u count ⊕ bytes entries ≡ Some contents → count ≤ 100

-- Each memory section of the core module of these bytes counts at most 100 memories, whatever sections are before it and whatever is after it.
abbrev pub HasFewMemories : List ℕ → Type 0
HasFewMemories text =
    (before : List (ℕ × List ℕ)) (contents after : List ℕ)
    → bytes core_preamble ⊕ each section before ⊕ section (5, contents) ⊕ bytes after ≡ Some text → CountsFew contents
