use Rattle.std.proofs.Common.{◌≡◌, ℕ}
use Rattle.smith_validate.specs.Numbers.{is_in}
use Rattle.smith_validate.proofs.numbers.Numbers.list_few.Given as goal

abbrev pub invariant-loop : goal.invariant-loop
invariant-loop l = (n : ℕ) → is_in l.self n ≡ is_in l.initial.self n
