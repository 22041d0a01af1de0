-- The text that the program writes.
use Rattle.std.specs.Prelude.{ℕ, ◌/◌, ◌%◌, List, [], ◌∷◌, ◌++◌, map, slice_index, codes, decimal}
use Rattle.std.specs.List.{join_with_byte}

-- the sixteen digits, lower-case letters among them
abbrev pub hexadecimal_digits : List ℕ
hexadecimal_digits = codes "0123456789abcdef"

-- a byte as two of these digits, the high four bits first
abbrev pub two_digits : ℕ → List ℕ
two_digits byte = slice_index hexadecimal_digits (byte / 16) ∷ slice_index hexadecimal_digits (byte % 16) ∷ []

-- the bytes as two digits each, separated by one space; a line feed; `left `, how many bytes of the input are left, in decimal; a line
-- feed
unfoldable pub page : List ℕ → ℕ → List ℕ
page bytes left = join_with_byte 32 (map two_digits bytes) ++ codes "\n" ++ codes "left " ++ decimal left ++ codes "\n"
