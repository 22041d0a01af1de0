-- Sizes as they are kept: sums of them are as great as sums of the sizes, up to the bound.
use Rattle.std.proofs.Common.{◌≡◌, ℕ, ◌+◌, ◌≤◌, arith}
use Rattle.smith_syntax.specs.Sizes.{capped}

pub capped_low : (n : ℕ) → capped n ≤ 9999 → n ≤ 9999
capped_low n h = omega arith

pub capped_room : (n : ℕ) → capped n ≤ 990000 → n ≤ 990000
capped_room n h = omega arith

pub capped_again : (n : ℕ) → capped (capped n) ≡ capped n
capped_again n = omega arith

pub capped_both : (a b c d : ℕ) → capped a ≡ capped b → capped c ≡ capped d → capped (a + c) ≡ capped (b + d)
capped_both a b c d e f = omega arith
