-- The core modules that stand for generated ones, and their bytes: function types and memories, and nothing else.
use Rattle.std.specs.Prelude.{ℕ, List, [], if◌then◌else◌}
use Rattle.smith_format.specs.CoreTypes.{Function, core_function}
use Rattle.smith_format.specs.Entities.{memory_type}
use Rattle.smith_format.specs.Piece.{Piece, ◌⊕◌, bytes, many, sized}
use Rattle.smith_format.specs.declared.types.MemoryType.{MemoryType}
use Rattle.smith_core.specs.Module.{has_any}
use Rattle.smith_core.specs.Preamble.{core_preamble}

-- function types, and memories that are defined
pub record StandIn : Type 0 where
  pub types : List Function
  pub memories : List MemoryType

abbrev pub stand_in : List Function → List MemoryType → StandIn
stand_in types memories = record { types = types; memories = memories }

-- a section of a list, which is there if the list has an entry
abbrev pub listed : {A : Type 0} → ℕ → (A → Piece) → List A → Piece
listed id f xs = if has_any xs then sized id (many f xs) else bytes []

-- its bytes (core specification, Binary Format, Modules), or None if a length or a count in it is too long
abbrev pub stand_in_text : StandIn → Piece
stand_in_text s = bytes core_preamble ⊕ listed 1 core_function s.types ⊕ listed 5 memory_type s.memories
