-- What a type that is made takes of the fuel.
use Rattle.std.proofs.Common.{ℕ, zero, suc, ◌+◌, ◌-◌, ◌<◌, ◌≤◌, List, [], ◌∷◌, length, arith}

-- by its size, its cost and its need
pub record Takes (size cost need left fuel : ℕ) : Type 0 where
  pub within : size + left ≤ fuel
  pub enough : need ≤ fuel
  pub leaves : left ≤ fuel - cost

-- Turns of a loop: they need no fuel if there are none, and otherwise one is left after the last.
abbrev pub used : ℕ → ℕ
used zero = 0
used (suc n) = suc n + 1

pub one_used : {A : Type 0} (xs : List A) (f g : ℕ) → used (length xs) ≤ f → 0 < f → f + 1 ≤ g → used (suc (length xs)) ≤ g
one_used [] f g h p q = omega (arith, h, p, q)
one_used (x ∷ xs) f g h p q = omega (arith, h, p, q)
