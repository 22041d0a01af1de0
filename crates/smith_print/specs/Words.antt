-- Words of the text format (core specification, Text Format, Lexical Format and Values).
use Rattle.std.specs.Prelude.{ℕ, ◌/◌, ◌%◌, Bool, List, [], ◌∷◌, ◌++◌, codes, decimal, nat_eq, nat_le, nat_lt, not, ◌&&◌, replicate, if◌then◌else◌, ◌+◌, false}
use Rattle.std.specs.Fmt.{digits}
use Rattle.std.specs.List.{flat_map}

infixr 30 ◌⧺◌
-- one text, and then the next
abbrev pub ◌⧺◌ : List ℕ → List ℕ → List ℕ
xs ⧺ ys = xs ++ ys

-- a byte of a string that stands for itself: of ASCII, no control character, no quotation mark and no backslash (Values, Strings)
abbrev pub stands : ℕ → Bool
stands b = nat_le 32 b && (nat_lt b 127 && (not (nat_eq b 34) && not (nat_eq b 92)))

-- a byte of a string, or its two hexadecimal digits after a backslash
abbrev pub character : ℕ → List ℕ
character b = if stands b then b ∷ [] else (codes "\\" ⧺ digits 16 false (b / 16) ⧺ digits 16 false (b % 16))

-- a string (Values, Strings)
abbrev pub quoted : List ℕ → List ℕ
quoted bs = codes "\"" ⧺ flat_map character bs ⧺ codes "\""

-- a line's end, and the next line's indent of so many columns
abbrev pub line : ℕ → List ℕ
line columns = 10 ∷ replicate columns 32

-- a line's end, and the next line up to what stands behind the first of these offsets, as a comment (Lexical Format, Comments)
abbrev pub item_line : ℕ → List ℕ → List ℕ
item_line columns [] = line columns
item_line columns (offset ∷ offsets) = line columns ⧺ codes "(;@" ⧺ decimal offset ⧺ codes ";) "

-- Contents are two columns further to the right, and at most 40.
abbrev pub deeper : ℕ → ℕ
deeper columns = if nat_lt columns 40 then columns + 2 else columns
