-- Bytes that are written wrongly: to no reader of the standard are they a component.
use Rattle.std.specs.Prelude.{◌≡◌, ◌≢◌, ◌≤◌, ◌<◌, ℕ, ◌+◌, List, length, take, slice_index, slice_set, bit_xor, Option, Some, None}
use Rattle.smith_format.specs.Piece.{Piece, ◌⊕◌, byte, bytes, u}
use Rattle.smith_read.specs.Framed.{Framed}
use Rattle.smith_change.specs.declared.miswritten.Miswriting.{Miswriting}
use Rattle.smith_change.specs.declared.miswritten.Miswriting.TheVariants.{Cut, Longer, Shorter, UnknownSection, Count, Preamble}

-- Bytes that have a section behind the first ones: its id, its length, and the rest, which is its contents and all that follows them (core
-- specification, Binary Format, Modules, Sections).
abbrev pub with_section : List ℕ → ℕ → ℕ → Piece → Piece
with_section front id size rest = bytes front ⊕ (byte id ⊕ (u size ⊕ rest))

-- the greatest count of a list (core specification, Binary Format, Conventions, Lists)
abbrev pub most_count : ℕ
most_count = 4294967295

-- What is written wrongly in the first bytes makes the second ones of them.
pub data Miswrites : Miswriting → List ℕ → List ℕ → Type 0 where
  cut : (given : List ℕ) (n : ℕ) → n < length given → Miswrites Cut given (take n given)
  -- a section whose length is one more
  longer : (given new front rest : List ℕ) (id size : ℕ) → with_section front id size (bytes rest) ≡ Some given
      → with_section front id (size + 1) (bytes rest) ≡ Some new → Miswrites Longer given new
  -- one whose length is one less
  shorter : (given new front rest : List ℕ) (id size : ℕ) → with_section front id (size + 1) (bytes rest) ≡ Some given
      → with_section front id size (bytes rest) ≡ Some new → Miswrites Shorter given new
  -- one whose id is past the last one, 12 (Binary.md, component definitions)
  unknown : (given new front rest : List ℕ) (id size : ℕ) → with_section front id size (bytes rest) ≡ Some given
      → with_section front 13 size (bytes rest) ≡ Some new → Miswrites UnknownSection given new
  -- one that begins with a count, which is the greatest
  counted : (given new front rest : List ℕ) (id size n : ℕ) → with_section front id size (u n ⊕ bytes rest) ≡ Some given
      → with_section front id size (u most_count ⊕ bytes rest) ≡ Some new → Miswrites Count given new
  -- a byte where the preamble is, whose lowest bit is the other
  turned : (given : List ℕ) (at : ℕ) → at < 8 → at < length given → Miswrites Preamble given (slice_set given at (bit_xor (slice_index given at) 1))

-- other bytes, which do not have the frames of a component (Binary.md, component definitions)
pub record AreUnframed (given new : List ℕ) : Type 0 where
  pub other : new ≢ given
  pub unframed : ¬ Framed new

-- the given bytes with this written wrongly
pub record AreMiswritten (what : Miswriting) (given new : List ℕ) : Type 0 where
  pub made : Miswrites what given new
  pub wrong : AreUnframed given new

-- Cut after so many bytes, from the first number on and before the second, they have the frames of a component.
abbrev pub AreCutsFramed : List ℕ → ℕ → ℕ → Type 0
AreCutsFramed given from to = (n : ℕ) → from ≤ n → n < to → n < length given → Framed (take n given)

-- A number from that one on, and bytes that are written wrongly. The numbers below the length of the given bytes are those of what is left if they
-- are cut after so many: none of these is passed over, unless it is framed.
abbrev pub IsMisstep : List ℕ → ℕ → Option (ℕ × Miswriting × List ℕ) → Type 0
IsMisstep given from (Some step) =
    (from ≤ step.0) × AreMiswritten step.1 given step.2 × AreCutsFramed given from step.0 × (step.0 < length given → step.2 ≡ take step.0 given)
IsMisstep given from None = AreCutsFramed given from (length given)
