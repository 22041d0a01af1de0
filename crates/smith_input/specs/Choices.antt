-- Choices among the items of a list.
use Rattle.std.specs.Prelude.{◌≡◌, ℕ, List, length, Some, slice_get}
use Rattle.smith_input.specs.Reading.{Reads}

-- A choice among the places of a list reads the item that is there.
pub record ReadsAmong {A : Type 0} (xs : List A) (bytes : List ℕ) (x : A) (rest : List ℕ) : Type 0 where
  pub place : ℕ
  pub reads : Reads (length xs) bytes place rest
  pub named : slice_get xs place ≡ Some x
