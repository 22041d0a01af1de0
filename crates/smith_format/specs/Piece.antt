-- Pieces of a text of bytes, and how they are joined.
use Rattle.std.specs.List.{list_all}
use Rattle.std.specs.Str.{is_utf8}
use Rattle.std.specs.Prelude.{ℕ, ◌^◌, List, [], ◌∷◌, ◌++◌, length, Option, Some, None, nat_lt, if◌then◌else◌, ℤ, pos}
use Rattle.smith_format.specs.Numbers.{unsigned, signed}

-- the bytes of something, or None if it has no encoding
abbrev pub Piece : Type 0
Piece = Option (List ℕ)

infixr 20 ◌⊕◌
-- one piece, and then the next
unfoldable pub ◌⊕◌ : Piece → Piece → Piece
None ⊕ q = None
(Some a) ⊕ None = None
(Some a) ⊕ (Some b) = Some (a ++ b)

-- the bytes of a piece, and none if it has no encoding
abbrev pub bytes_of : Piece → List ℕ
bytes_of None = []
bytes_of (Some b) = b

abbrev pub byte : ℕ → Piece
byte n = Some (n ∷ [])

abbrev pub bytes : List ℕ → Piece
bytes bs = Some bs

-- A length, a count or an index (core specification, Binary Format, Conventions): it is at most 4,294,967,295.
unfoldable pub u : ℕ → Piece
u n = if nat_lt n (2 ^ 32) then Some (unsigned n) else None

-- a bound of limits (core specification, Binary Format, Types, Limits): it has at most 64 bits.
unfoldable pub number : ℕ → Piece
number n = if nat_lt n (2 ^ 64) then Some (unsigned n) else None

-- a signed number of any size
abbrev pub s : ℤ → Piece
s z = Some (signed z)

-- an index where a value type may appear: signed, so that it is none of the bytes of a primitive type (Binary.md, Type
-- Definitions)
unfoldable pub s_index : ℕ → Piece
s_index n = if nat_lt n (2 ^ 32) then s (pos n) else None

-- bytes as they are
unfoldable pub raw : List ℕ → Piece
raw bs = if list_all (λ b. nat_lt b 256) bs then Some bs else None

unfoldable pub utf8 : List ℕ → Piece
utf8 bs = if is_utf8 bs then Some bs else None

-- something after its length in bytes
unfoldable pub framed : Piece → Piece
framed None = None
framed (Some b) = u (length b) ⊕ Some b

-- a name (core specification, Binary Format, Values, Names)
unfoldable pub text : List ℕ → Piece
text t = u (length t) ⊕ utf8 t

-- several, in order
abbrev pub each : {A : Type 0} → (A → Piece) → List A → Piece
each f [] = Some []
each f (x ∷ xs) = f x ⊕ each f xs

-- a list after its count (core specification, Binary Format, Conventions, Lists)
abbrev pub many : {A : Type 0} → (A → Piece) → List A → Piece
many f xs = u (length xs) ⊕ each f xs

-- a section of these contents (core specification, Binary Format, Modules, Sections; Binary.md, Component Definitions)
abbrev pub sized : ℕ → Piece → Piece
sized id contents = byte id ⊕ framed contents
