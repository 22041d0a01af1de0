-- Entries in a row, one of which is changed: a section, an entry of one, a declaration, a member, a parameter. What is after it is not numbered anew.
use Rattle.std.specs.Prelude.{◌≡◌, ℕ, zero, suc, ◌+◌, ◌-◌, List, [], ◌∷◌, ◌++◌, length, Option, Some, None, codes, decimal, nat_lt, ◌==◌, if◌then◌else◌}
use Rattle.std.specs.Option.{option_map}

-- what is sought is among the first places, or later
abbrev pub in_turn : {A : Type 0} → ℕ → (ℕ → A) → (ℕ → A) → ℕ → A
in_turn n first later k = if nat_lt k n then first k else later (k - n)

-- It is the first place, or a later one.
abbrev pub first_or : {A : Type 0} → A → (ℕ → A) → ℕ → A
first_or own later k = in_turn 1 (λ j. own) later k

-- the first two exchanged
abbrev pub exchanged : {A : Type 0} → List A → Option (List A)
exchanged [] = None
exchanged (x ∷ []) = None
exchanged (x ∷ y ∷ rest) = Some (y ∷ x ∷ rest)

-- the first, and then an entry that is like it but for its name
abbrev pub followed : {A : Type 0} → Option A → A → List A → Option (List A)
followed again x rest = option_map (λ y. x ∷ y ∷ rest) again

-- The first entry left out, doubled, exchanged with the next, or doubled with the name `again` if it has a name.
abbrev pub entry_alternative : {A : Type 0} → (A → Option A) → ℕ → List A → Option (List A)
entry_alternative again a [] = None
entry_alternative again a (x ∷ rest) =
    if a == 0 then Some rest
    else if a == 1 then Some (x ∷ x ∷ rest)
    else if a == 2 then exchanged (x ∷ rest)
    else if a == 3 then followed (again x) x rest
    else None

-- the name of a doubled entry
abbrev pub again_name : List ℕ
again_name = codes "again"

-- an entry without a name
abbrev pub unnamed : {A : Type 0} → A → Option A
unnamed x = None

-- Entries with so many places inside: the place of an entry is before those.
abbrev pub row_places : {A : Type 0} → (A → ℕ) → List A → ℕ
row_places size [] = 0
row_places size (x ∷ xs) = 1 + (size x + row_places size xs)

-- These are changed so inside, and doubled so with another name.
module _ {A : Type 0} (size : A → ℕ) (changed : ℕ → ℕ → A → Option A) (again : A → Option A) where
  abbrev pub row_changed : ℕ → ℕ → List A → Option (List A)
  row_changed a k [] = None
  row_changed a k (x ∷ xs) =
      first_or (entry_alternative again a (x ∷ xs))
      (in_turn (size x) (λ j. option_map (λ y. y ∷ xs) (changed a j x)) (λ j. option_map (λ ys. x ∷ ys) (row_changed a j xs))) k

-- members and parameters

-- the new names x0, x1, ..
abbrev pub new_name : ℕ → List ℕ
new_name n = codes "x" ++ decimal n

abbrev pub new_members : {A : Type 0} → (ℕ → A) → ℕ → ℕ → List A
new_members new from zero = []
new_members new from (suc more) = new from ∷ new_members new (from + 1) more

-- the new members by their numbers, of which none may be missing
abbrev pub AreNew : {A : Type 0} → (ℕ → Option A) → (ℕ → A) → Type 0
AreNew fresh new = (n : ℕ) → fresh n ≡ Some (new n)

-- filled up to so many
abbrev pub filled : {A : Type 0} → (ℕ → A) → ℕ → List A → List A
filled new most xs = xs ++ new_members new 0 (most - length xs)

-- No members, as many as the bound allows, or one more.
abbrev pub members_alternative : {A : Type 0} → ℕ → (ℕ → A) → ℕ → List A → Option (List A)
members_alternative bound new a xs =
    if a == 0 then Some []
    else if a == 1 then Some (filled new bound xs)
    else if a == 2 then Some (filled new (bound + 1) xs)
    else None
