-- Division by 128, by which the bytes of a signed number follow one another.
use Rattle.std.specs.Prelude.{ℕ, ℤ, pos, unsigned_abs}
use Rattle.std.specs.Int.{int_div_euclid, int_rem_euclid}

-- the remainder of a division by 128, from 0 to 127
abbrev pub low_bits : ℤ → ℕ
low_bits z = unsigned_abs (int_rem_euclid z (pos 128))

-- the quotient of a division by 128, rounded down
abbrev pub high_bits : ℤ → ℤ
high_bits z = int_div_euclid z (pos 128)
