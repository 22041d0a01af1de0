-- What is at an index of a row.
use Rattle.std.proofs.Common.{◌≡◌, ℕ, ◌<◌, List, Some, get_or, length, sym, ap, ◌∙◌}
use Rattle.std.proofs.lemmas.Option.{slice_get-get_or}
use Rattle.std.specs.Prelude.{slice_get}

module _ (row all : List ℕ) (is : row ≡ all) (k : ℕ) (within : k < length all) where
  pub in_row : k < length row
  in_row = rw is within

  pub found_in_row : slice_get all k ≡ Some (get_or row k 0)
  found_in_row = ap (λ ps. slice_get ps k) (sym is) ∙ slice_get-get_or row k 0 in_row
