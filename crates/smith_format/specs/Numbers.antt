-- Numbers in LEB128 (core specification, Binary Format, Values, Integers), each with the fewest bytes.
use Rattle.std.specs.Prelude.{ℕ, zero, suc, ◌+◌, ◌-◌, ◌/◌, ◌%◌, List, [], ◌∷◌, nat_lt, if◌then◌else◌, ℤ, pos, negsuc}

-- Seven bits a byte, the least of them first, and 128 more in each byte but the last. A number below `last` is the last
-- byte. `bits` is how seven bits are written. There are at most `more` bytes in front of the last.
unfoldable pub digits : (ℕ → ℕ) → ℕ → ℕ → ℕ → List ℕ
digits bits last zero n = bits n ∷ []
digits bits last (suc more) n = if nat_lt n last then bits n ∷ [] else (128 + bits (n % 128)) ∷ digits bits last more (n / 128)

abbrev pub as_it_is : ℕ → ℕ
as_it_is n = n

-- each of the seven bits is the other one
abbrev pub turned : ℕ → ℕ
turned n = 127 - n

-- An unsigned number. It has fewer bytes than its value, so that `more` cuts nothing.
unfoldable pub unsigned : ℕ → List ℕ
unsigned n = digits as_it_is 128 n n

-- A signed number, whose last byte has the sign in its highest bit of seven: `negsuc n` is -(n + 1), and has the bits of n turned.
unfoldable pub signed : ℤ → List ℕ
signed (pos n) = digits as_it_is 64 n n
signed (negsuc n) = digits turned 64 n n
