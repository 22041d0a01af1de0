-- Names that are new and as short as can be: the first of a, b, .., z, aa, ab, .. that is not taken.
use Rattle.std.specs.Prelude.{ℕ, zero, suc, ◌+◌, ◌-◌, ◌/◌, ◌%◌, List, [], ◌∷◌, ◌++◌, Option, Some, None, length, nat_lt, if◌then◌else◌}
use Rattle.smith_input.specs.NewNames.{is_among}

-- the n-th of them, if it has at most m letters
abbrev pub letters : ℕ → ℕ → List ℕ
letters zero n = []
letters (suc m) n = if nat_lt n 26 then (0x61 + n) ∷ [] else letters m (n / 26 - 1) ++ (0x61 + n % 26) ∷ []

-- the n-th of them
unfoldable pub short_name : ℕ → List ℕ
short_name n = letters (suc n) n

-- the first from the n-th on that is none of the names, or else the m-th after that
abbrev pub new_from : ℕ → ℕ → List (List ℕ) → List ℕ
new_from zero n names = short_name n
new_from (suc m) n names = if is_among names (short_name n) then new_from m (n + 1) names else short_name n

-- the first that is none of the names
abbrev pub shortest_new : List (List ℕ) → List ℕ
shortest_new names = new_from (length names) 0 names

-- that name, if it is shorter than this one
abbrev pub shorter_name : List (List ℕ) → List ℕ → Option (List ℕ)
shorter_name names name = if nat_lt (length (shortest_new names)) (length name) then Some (shortest_new names) else None
