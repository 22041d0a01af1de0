-- Types of instances that are opened one within another, and what is asked of the rest of them.
use Rattle.std.specs.Prelude.{◌≡◌, ◌⊎◌, ℕ, ◌<◌, true, false, Bool, List, [], ◌∷◌, ◌++◌, drop}
use Rattle.std.specs.List.{AllByRecursion}
use Rattle.smith_input.specs.NewNames.{is_among}
use Rattle.smith_tree.specs.Facts.{Id}
use Rattle.smith_tree.specs.Validates.{names_of}
use Rattle.smith_validate.specs.Exact.{IsExposed, IsOpening, is_exposed}
use Rattle.smith_validate.specs.Exposing.{AreMet, IsMet, named_after, named_past, number_of, uses_of}
use Rattle.smith_validate.specs.Instances.{Surface, Piece, externs_in, externs_of, place_of, uses_in}
use Rattle.smith_validate.specs.Places.{IsUnder}
use Rattle.smith_validate.specs.Tables.{Fits, IsLive}
use Rattle.smith_validate.specs.declared.instances.Exposed.{Exposed}
use Rattle.smith_validate.specs.declared.instances.InstanceType.{InstanceType}
use Rattle.smith_validate.specs.declared.instances.Use.{Use}
use Rattle.smith_validate.specs.declared.instances.Use.TheVariants.{Instance, Equal}

-- All of them are of types after that one.
abbrev pub AreAfter : ℕ → List (Use × ℕ) → Type 0
AreAfter n [] = Unit {0}
AreAfter n (u ∷ us) = (n < number_of u.0) × AreAfter n us

-- Each type that it was added within is exposed or being opened, or it is that one itself.
abbrev pub IsReached : List Surface → Exposed → List (Use × ℕ) → Use → Type 0
IsReached table s us (Instance n) =
    (m : ℕ) → IsLive table m → IsUnder (place_of table n) (place_of table m) → (m ≡ n) ⊎ ((is_exposed s m ≡ true) ⊎ IsOpening us m)
IsReached table s us (Equal n) = Unit {0}

-- A use that may be opened.
pub record IsOpenable (table : List Surface) (s : Exposed) (us : List (Use × ℕ)) (u : Use) : Type 0 where
  pub live : IsLive table (number_of u)
  pub after : AreAfter (number_of u) us
  pub reached : IsReached table s us u

-- What an instance names is named, or is named by the rest of it.
abbrev pub IsNamedThen : List Surface → Use → List Piece → List Id → Type 0
IsNamedThen table (Instance n) ps named =
    (id : Id) → is_among (names_of (externs_of table n)) id ≡ true → is_among (named ++ names_of (externs_in table ps)) id ≡ true
IsNamedThen table (Equal n) ps named = Unit {0}

-- The rest of a use that is open, of whose own uses that many are done. It is met if all is.
pub record IsHalf (table : List Surface) (all : List InstanceType) (Goal : Type 0) (s : Exposed) (us : List (Use × ℕ)) (u : Use × ℕ) (named : List Id)
    (ps : List Piece) : Type 0 where
  pub uses_are : uses_in ps ≡ drop u.1 (uses_of all (number_of u.0))
  pub fit : AllByRecursion (Fits table (number_of u.0) (place_of table (number_of u.0))) ps
  pub names : IsNamedThen table u.0 ps named
  pub met : Goal → AreMet table u.0 named ps

module _ (table : List Surface) (all : List InstanceType) (last : Use) (before : List Id) where
  -- Uses are open, the innermost first.
  abbrev pub AreHalf : Exposed → List (Use × ℕ) → List Id → Type 0
  AreHalf s [] named = named ≡ named_after table last before
  AreHalf s (u ∷ us) named = (ps : List Piece) × IsOpenable table s us u.0 × IsHalf table all (IsMet table last before) s us u named ps
      × AreHalf s us (named_past table u.0 named ps)

-- The way to the end of the last of them.
pub record IsMidway (table : List Surface) (all : List InstanceType) (last : Use) (before : List Id) (s : Exposed) (us : List (Use × ℕ)) : Type 0 where
  pub named : List Id
  pub exposed : IsExposed table s us named
  pub half : AreHalf table all last before s us named

-- A use is found to be met, with what is exposed then; or it is not met.
abbrev pub IsFound : List Surface → Use → (List Id → Type 0) → List Id → Bool → Type 0
IsFound table u AreExposed named true = AreExposed (named_after table u named)
IsFound table u AreExposed named false = ¬ (IsMet table u named)

abbrev pub IsStep : List Surface → List InstanceType → Use → List Id → Exposed → List (Use × ℕ) → Bool → Type 0
IsStep table all last before s us true = IsMidway table all last before s us
IsStep table all last before s us false = ¬ (IsMet table last before)
