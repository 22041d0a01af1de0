-- Types of instances that are named at once, while what they export of others is named only when it is asked for.
use Rattle.std.specs.Prelude.{◌≡◌, ◌⊎◌, ◌+◌, ℕ, ◌<◌, true, List, [], ◌∷◌, length, Option, None, Some}
use Rattle.smith_input.specs.NewNames.{is_among}
use Rattle.smith_tree.specs.Facts.{Id}
use Rattle.smith_tree.specs.Validates.{names_of}
use Rattle.smith_validate.specs.Exposing.{IsSettled, Meets, number_of}
use Rattle.smith_validate.specs.Exposure.{is_exposed}
use Rattle.smith_validate.specs.Instances.{Surface, externs_of, outside_of, place_of}
use Rattle.smith_validate.specs.Marks.{Within}
use Rattle.smith_validate.specs.Places.{IsInside, IsUnder}
use Rattle.smith_validate.specs.Tables.{IsLive}
use Rattle.smith_validate.specs.declared.exposure.Exposure.{Exposure}
use Rattle.smith_validate.specs.declared.instances.Exposed.{Exposed}
use Rattle.smith_validate.specs.declared.instances.Use.{Use}
use Rattle.smith_validate.specs.declared.instances.Use.TheVariants.{Instance}

-- It is one of them.
abbrev pub IsListed : List ℕ → ℕ → Type 0
IsListed [] n = ⊥
IsListed (k ∷ ks) n = (k ≡ n) ⊎ IsListed ks n

-- An instance of that type is used.
abbrev pub IsUsed : List Use → ℕ → Type 0
IsUsed [] n = ⊥
IsUsed (u ∷ us) n = (u ≡ Instance n) ⊎ IsUsed us n

-- What is settled refers to what is named, and what is to be looked at later is named.
pub record AreSettled (table : List Surface) (e : Exposure) (named : List Id) : Type 0 where
  pub settled : IsSettled table e.exposed named
  pub later : (n : ℕ) → IsListed e.later.items n → is_exposed e.exposed n ≡ true

-- what is settled once a use is met, if there is one
abbrev pub IsMetBy : List Surface → Option Use → Exposure → List Id → Type 0
IsMetBy table None e named = AreSettled table e named
IsMetBy table (Some u) e named =
    number_of u < length table → Within named (outside_of table (number_of u)) → Meets table u (AreSettled table e) named

-- One of these, that one or one before it, names it.
pub record IsOwed (table : List Surface) (later : List ℕ) (m : ℕ) (id : Id) : Type 0 where
  pub by : ℕ
  pub listed : IsListed later by
  pub before : by < m + 1
  pub names : is_among (names_of (externs_of table by)) id ≡ true

-- What a type of instances names that is exposed.
pub record IsNamedBy (table : List Surface) (s : Exposed) (id : Id) : Type 0 where
  pub by : ℕ
  pub exposed : is_exposed s by ≡ true
  pub names : is_among (names_of (externs_of table by)) id ≡ true

-- What is named of a type of instances, or within it, is named since an instance of it was opened, or one of a type that
-- is exposed. That then exposes it too, or one that is to be looked at later does.
pub record IsExposure (table : List Surface) (e : Exposure) (named : List Id) : Type 0 where
  pub opened : (n : ℕ) (id : Id) → IsLive table n → is_among named id ≡ true → IsInside id (place_of table n)
      → (is_exposed e.exposed n ≡ true) ⊎ IsNamedBy table e.exposed id
  pub within : (m n : ℕ) (id : Id) → is_exposed e.exposed m ≡ true → IsLive table n → is_among (names_of (externs_of table m)) id ≡ true
      → IsInside id (place_of table n) → (is_exposed e.exposed n ≡ true) ⊎ IsOwed table e.later.items m id
  pub reached : (m n : ℕ) → IsListed e.later.items m → IsLive table n → IsUnder (place_of table m) (place_of table n) → is_exposed e.exposed n ≡ true
  pub live : (m : ℕ) → IsListed e.later.items m → IsLive table m
  pub names : (n : ℕ) → is_exposed e.exposed n ≡ true
      → (n < length table) × ((id : Id) → is_among (names_of (externs_of table n)) id ≡ true → is_among named id ≡ true)

-- One more is exposed.
pub record Gains (old new : Exposed) (n : ℕ) : Type 0 where
  pub has : is_exposed new n ≡ true
  pub only : (m : ℕ) → is_exposed new m ≡ true → (is_exposed old m ≡ true) ⊎ (m ≡ n)
  pub more : (m : ℕ) → is_exposed old m ≡ true → is_exposed new m ≡ true
  pub settled : new.settled ≡ old.settled

-- The types of these instances are exposed, and those that were not are to be looked at later.
pub record Adds (old new : Exposure) (us : List Use) : Type 0 where
  pub has : (n : ℕ) → IsUsed us n → is_exposed new.exposed n ≡ true
  pub only : (n : ℕ) → is_exposed new.exposed n ≡ true → (is_exposed old.exposed n ≡ true) ⊎ (IsUsed us n × IsListed new.later.items n)
  pub more : (n : ℕ) → is_exposed old.exposed n ≡ true → is_exposed new.exposed n ≡ true
  pub later_more : (n : ℕ) → IsListed old.later.items n → IsListed new.later.items n
  pub later_only : (n : ℕ) → IsListed new.later.items n → IsListed old.later.items n ⊎ IsUsed us n
  pub settled : new.exposed.settled ≡ old.exposed.settled
