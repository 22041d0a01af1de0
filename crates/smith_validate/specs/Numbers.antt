-- Sets of numbers.
use Rattle.std.specs.Prelude.{◌≡◌, ◌⊎◌, ◌||◌, ℕ, Bool, true, false, List, get_or}
use Rattle.std.specs.BTreeSet.{contains}
use Rattle.std.specs.Ordering.{nat_cmp}
use Rattle.smith_validate.specs.declared.numbers.Numbers.{Numbers}

abbrev pub is_in : Numbers → ℕ → Bool
is_in s n = get_or s.present.items n false || contains nat_cmp s.few n

-- One more number is in the set.
pub record IsAdded (old new : Numbers) (n : ℕ) : Type 0 where
  pub has : is_in new n ≡ true
  pub only : (m : ℕ) → is_in new m ≡ true → (is_in old m ≡ true) ⊎ (m ≡ n)
  pub more : (m : ℕ) → is_in old m ≡ true → is_in new m ≡ true

-- One more is listed.
pub record IsListedToo (old new : List Bool) (n : ℕ) : Type 0 where
  pub has : get_or new n false ≡ true
  pub rest : (m : ℕ) → ¬ (m ≡ n) → get_or new m false ≡ get_or old m false
