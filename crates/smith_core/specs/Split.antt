-- How a module's bytes are split into sections (core specification, Binary Format, Modules, Sections).
use Rattle.std.specs.Prelude.{◌≡◌, ℕ, List, map, Some}
use Rattle.std.specs.List.{filter}
use Rattle.smith_format.specs.Piece.{Piece, ◌⊕◌, bytes, each, sized}
use Rattle.smith_core.specs.Module.{binary_order, section_id, is_written, contents}
use Rattle.smith_core.specs.Preamble.{core_preamble}
use Rattle.smith_core.specs.declared.module.parts.ModuleParts.{ModuleParts}

-- a section of any module: its id and its contents
abbrev pub CoreSection : Type 0
CoreSection = ℕ × List ℕ

abbrev pub core_section : CoreSection → Piece
core_section x = sized x.0 (bytes x.1)

-- the bytes are the preamble, and then these sections
abbrev pub Splits : List ℕ → List CoreSection → Type 0
Splits b xs = bytes core_preamble ⊕ each core_section xs ≡ Some b

-- the ids and the contents of a module's written sections, in binary order
abbrev pub sections_of : ModuleParts → List (ℕ × Piece)
sections_of m = map (λ k. (section_id k, contents m k)) (filter (is_written m) binary_order)

-- the same for sections of bytes
abbrev pub present_section : CoreSection → ℕ × Piece
present_section x = (x.0, Some x.1)
