-- Types by where they were added: in scopes that are open at a place, or in types that are closed there.
use Rattle.std.specs.Prelude.{◌≡◌, ℕ, ◌<◌, ◌⊎◌, [], ◌∷◌, length}
use Rattle.smith_tree.specs.Facts.{Id}

-- It is that one, or was added within it.
abbrev pub IsUnder : Id → Id → Type 0
IsUnder [] around = [] ≡ around
IsUnder (k ∷ id) around = ((k ∷ id) ≡ around) ⊎ IsUnder id around

-- It was added within that one.
abbrev pub IsInside : Id → Id → Type 0
IsInside [] around = ⊥
IsInside (k ∷ id) around = IsUnder id around

-- It was added in the scope of that one, at no depth below.
abbrev pub IsChild : Id → Id → Type 0
IsChild around [] = ⊥
IsChild around (k ∷ id) = id ≡ around

-- It was added before the place to an open scope.
pub record IsOpen (place id : Id) : Type 0 where
  pub scope : Id
  pub count : ℕ
  pub index : ℕ
  pub place_is : IsUnder place (count ∷ scope)
  pub id_is : id ≡ index ∷ scope
  pub less : index < count

-- It is, or is within, a type that was added before the place to an open scope with at least that many around it.
pub record IsBefore (level : ℕ) (place id : Id) : Type 0 where
  pub around : Id
  pub open_is : IsOpen place around
  pub within : IsUnder id around
  pub deep : level < length around

-- It was added before the place to a scope that is closed.
abbrev pub IsClosed : Id → Id → Type 0
IsClosed place [] = ⊥
IsClosed place (k ∷ id) = IsBefore 0 place id
