-- The types of a component, by their signatures.
use Rattle.std.specs.Prelude.{◌≡◌, ℕ, ◌<◌, List, [], ◌∷◌, ◌++◌, length, Option, Some, None, slice_get, if◌then◌else◌}
use Rattle.std.specs.HashMap.{HashMap, get}
use Rattle.std.specs.declared.vec.Vec.{Vec}
use Rattle.smith_syntax.specs.Entries.{Entry, Signature, function}
use Rattle.smith_syntax.specs.HasSignature.{is_of_signature}
use Rattle.smith_syntax.specs.Places.{places}
use Rattle.smith_syntax.specs.SameSignature.{same_signature}
use Rattle.smith_scopes.specs.Rows.{row_in}
use Rattle.std.specs.List.{AllByRecursion}
use Rattle.std.specs.List.Sorted.{IsStrictlyIncreasing}

-- the row of that number, if there is one
abbrev pub row_at : {Z : Type 0} → List (Vec ℕ Z) → Option ℕ → List ℕ
row_at rows None = []
row_at rows (Some k) = row_in (slice_get rows k)

module _ {Z S : Type 0} where
  -- the row of a signature
  abbrev pub row_for : HashMap Signature ℕ S → List (Vec ℕ Z) → Signature → List ℕ
  row_for numbers rows s = row_at rows (get same_signature numbers s)

  -- Each number is a row's, and belongs to signatures that are equal.
  pub record IsNumbered (numbers : HashMap Signature ℕ S) (rows : List (Vec ℕ Z)) : Type 0 where
    pub within : (s : Signature) (k : ℕ) → get same_signature numbers s ≡ Some k → k < length rows
    pub apart : (s t : Signature) (k : ℕ) → get same_signature numbers s ≡ Some k → get same_signature numbers t ≡ Some k → s ≡ t

  -- Each number stays, and the rows change so.
  pub record Follows (change : Signature → List ℕ → List ℕ) (old new : HashMap Signature ℕ S) (rows more : List (Vec ℕ Z)) : Type 0 where
    pub numbered : IsNumbered new more
    pub stays : (s : Signature) (k : ℕ) → get same_signature old s ≡ Some k → get same_signature new s ≡ Some k
    pub row : (s : Signature) → row_for new more s ≡ change s (row_for old rows s)

  -- Each function type has the number of a row, which has the indexes of its equals.
  pub record AreEquals (types : List Entry) (row_of : List ℕ) (numbers : HashMap Signature ℕ S) (rows : List (Vec ℕ Z)) : Type 0 where
    pub numbered : IsNumbered numbers rows
    pub count : length row_of ≡ length types
    pub row : (s : Signature) → row_for numbers rows s ≡ places (is_of_signature s) 0 types
    pub known : (i : ℕ) (s : Signature) → slice_get types i ≡ Some (function s) → slice_get row_of i ≡ get same_signature numbers s

-- no change
abbrev pub same_row : Signature → List ℕ → List ℕ
same_row s row = row

-- one more index in the row of that signature
abbrev pub with_index : Signature → ℕ → Signature → List ℕ → List ℕ
with_index f i s row = if same_signature f s then row ++ i ∷ [] else row

-- Indexes that are among a list's, ascending.

pub record AreAmong (indexes functions : List ℕ) : Type 0 where
  pub ascend : IsStrictlyIncreasing indexes
  pub within : AllByRecursion (λ i. i < length functions) indexes
