-- Types of instances that are known, and where their names were added.
use Rattle.std.specs.Prelude.{◌≡◌, ℕ, ◌+◌, ◌<◌, true, List, [], ◌∷◌, ◌++◌, length}
use Rattle.std.specs.List.{AllByRecursion, flat_map}
use Rattle.smith_input.specs.NewNames.{is_among}
use Rattle.smith_tree.specs.Facts.{Id}
use Rattle.smith_tree.specs.Validates.{names_of}
use Rattle.smith_validate.specs.Exposing.{refers_own, uses_of}
use Rattle.smith_validate.specs.Instances.{Surface, Piece, equal, externs_in, externs_of, place_of, refers_of, single, uses_in, whole}
use Rattle.smith_validate.specs.Places.{IsBefore, IsChild, IsClosed, IsInside, IsUnder}
use Rattle.smith_validate.specs.declared.instances.InstanceType.{InstanceType}

-- all that types of instances name
abbrev pub names_in : List Surface → List Id
names_in table = flat_map (λ e. names_of e.externs) table

-- It can still be referred to.
abbrev pub IsLive : List Surface → ℕ → Type 0
IsLive table n = ¬ (place_of table n ≡ [])

-- It is one of the first ones, that many, and was added to a scope that is seen within that type.
pub record IsSeen (table : List Surface) (bound : ℕ) (around : Id) (n : ℕ) : Type 0 where
  pub scope : Id
  pub index : ℕ
  pub below : n < bound
  pub place_is : place_of table n ≡ index ∷ scope
  pub scope_is : IsUnder around scope

-- An export of the type that was added there names types of that scope, and is of types of instances that are seen there.
abbrev pub Fits : List Surface → ℕ → Id → Piece → Type 0
Fits table bound around (single x) = (id : Id) → is_among x.names id ≡ true → IsChild around id
Fits table bound around (whole n) = IsSeen table bound around n
Fits table bound around (equal n names) = IsSeen table bound around n × ((id : Id) → is_among names id ≡ true → IsChild around id)

-- What is kept of a type of instances is of it; and if that says that it refers to its own types, it does.
pub record IsExact (all : List InstanceType) (table : List Surface) (n : ℕ) : Type 0 where
  pub pieces : List Piece
  pub externs_are : externs_of table n ≡ externs_in table pieces
  pub uses_are : uses_of all n ≡ uses_in pieces
  pub fit : AllByRecursion (Fits table n (place_of table n)) pieces
  pub own : refers_own all n ≡ true → (id : Id) × (is_among (refers_of (externs_of table n)) id ≡ true) × IsInside id (place_of table n)

abbrev pub AreExact : List InstanceType → List Surface → Type 0
AreExact all table = (n : ℕ) → IsLive table n → IsExact all table n

-- The same, with more.
abbrev pub AreExactNow : List InstanceType → List Surface → Type 0
AreExactNow all table = (more : List Surface) × AreExact all (table ++ more) × (length all ≡ length (table ++ more))

-- Each was added at a place of its own.
abbrev pub AreDistinct : List Surface → Type 0
AreDistinct table = (m n : ℕ) → IsLive table m → IsLive table n → place_of table m ≡ place_of table n → m ≡ n

-- Each was added before the place, and names what was added in closed scopes.
pub record AreAdded (place : Id) (table : List Surface) : Type 0 where
  pub before : (n : ℕ) → IsLive table n → IsBefore 0 place (place_of table n)
  pub distinct : AreDistinct table
  pub closed : (id : Id) → is_among (names_in table) id ≡ true → IsClosed place id

-- There are more than before. None of them, nor of what they name, was added before the place.
pub record IsGrown (place : Id) (old new : List Surface) : Type 0 where
  pub more : List Surface
  pub is : new ≡ old ++ more
  pub names : (id : Id) → is_among (names_in new) id ≡ true → IsBefore 0 place id → is_among (names_in old) id ≡ true
  pub places : (n : ℕ) → length old < n + 1 → IsLive new n → IsUnder (place_of new n) place
