-- Types of instances that are exposed, since an instance was imported or exported.
use Rattle.std.specs.Prelude.{◌≡◌, ◌⊎◌, ℕ, ◌<◌, Bool, true, List, [], ◌∷◌, length}
use Rattle.smith_input.specs.NewNames.{is_among}
use Rattle.smith_tree.specs.Facts.{Id}
use Rattle.smith_tree.specs.Validates.{names_of}
use Rattle.smith_validate.specs.Instances.{Surface, externs_of, place_of}
use Rattle.smith_validate.specs.Numbers.{is_in}
use Rattle.smith_validate.specs.Places.{IsInside}
use Rattle.smith_validate.specs.Tables.{IsLive}
use Rattle.smith_validate.specs.declared.instances.Exposed.{Exposed}
use Rattle.smith_validate.specs.declared.instances.Use.{Use}
use Rattle.smith_validate.specs.declared.instances.Use.TheVariants.{Instance}

-- Is an instance of that type being opened?
abbrev pub IsOpening : List (Use × ℕ) → ℕ → Type 0
IsOpening [] n = ⊥
IsOpening (u ∷ us) n = (u.0 ≡ Instance n) ⊎ IsOpening us n

abbrev pub is_exposed : Exposed → ℕ → Bool
is_exposed s n = is_in s.named n

-- What is named of a type of instances, or within it, is named since an instance of it was opened; and then all that it names is.
pub record IsExposed (table : List Surface) (s : Exposed) (us : List (Use × ℕ)) (named : List Id) : Type 0 where
  pub opened : (n : ℕ) (id : Id) → IsLive table n → is_among named id ≡ true → IsInside id (place_of table n)
      → (is_exposed s n ≡ true) ⊎ IsOpening us n
  pub names : (n : ℕ) → is_exposed s n ≡ true
      → (n < length table) × ((id : Id) → is_among (names_of (externs_of table n)) id ≡ true → is_among named id ≡ true)
