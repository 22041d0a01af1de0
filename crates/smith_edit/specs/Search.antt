-- What is found among the items of a component.
use Rattle.std.specs.Prelude.{◌≡◌, ℕ, ◌+◌, ◌≤◌, ◌<◌, Option, None, Some}
use Rattle.smith_read.specs.Search.{among}
use Rattle.smith_read.specs.declared.search.Search.{Search}

-- what is found among that many items by the number of the one that is sought
abbrev pub found : {A : Type 0} → ℕ → Search → (ℕ → Option A) → Option A
found n s search = elim (among n s) [ None ↦ None | Some k ↦ search k ]

-- Of n items, which have the numbers from `number` on: the number of the first one, from `from` on, at which there is something.
abbrev pub IsFirst : {A : Type 0} → ℕ → (ℕ → Option A) → ℕ → ℕ → Option ℕ → Type 0
IsFirst n at number from (Some first) =
    (k : ℕ) × (k < n) × (first ≡ number + k) × (from ≤ first) × (¬ (at k ≡ None)) × ((j : ℕ) → from ≤ number + j → j < k → at j ≡ None)
IsFirst n at number from None = (j : ℕ) → from ≤ number + j → j < n → at j ≡ None
