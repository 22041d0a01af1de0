-- The rows of equal function types: for each of them the indexes of its equals among the first types of a scope.
use Rattle.std.specs.Prelude.{◌≡◌, ℕ, List, [], ◌∷◌, ◌++◌, length, map, take, Option, Some, None, if◌then◌else◌, ⊤}
use Rattle.std.specs.HashMap.{HashMap, get}
use Rattle.std.specs.declared.alloc.Global.{Global}
use Rattle.std.specs.declared.boxed.Box.{Box}
use Rattle.std.specs.declared.rc.Rc.{Rc}
use Rattle.std.specs.declared.vec.Vec.{Vec}
use Rattle.smith_input.specs.Choices.{ReadsAmong}
use Rattle.smith_syntax.specs.Entries.{Signature}
use Rattle.smith_syntax.specs.HasSignature.{has_signature}
use Rattle.smith_syntax.specs.Places.{places}
use Rattle.smith_syntax.specs.SameSignature.{same_signature}
use Rattle.smith_syntax.specs.declared.deftype.DefType.{DefType}
use Rattle.smith_scopes.specs.declared.scopes.equals.Equals.{Equals}

-- what shared types and shared core types are
abbrev pub values_of : {X : Type 0} → List (Rc X Global) → List X
values_of entries = map (λ e. e.value) entries

-- A row of a map from function types to indexes. A type that the map doesn't have has the empty row.
abbrev pub row_in : {Z : Type 0} → Option (Vec ℕ Z) → List ℕ
row_in None = []
row_in (Some row) = row.items

module _ {Z S : Type 0} where
  abbrev pub row_of : HashMap Signature (Vec ℕ Z) S → Signature → List ℕ
  row_of m f = row_in (get same_signature m f)

  -- the row of s has i at its end, and every other row is as it was
  abbrev pub Notes : Signature → ℕ → HashMap Signature (Vec ℕ Z) S → HashMap Signature (Vec ℕ Z) S → Type 0
  Notes s i old new = (f : Signature) → row_of new f ≡ (if same_signature s f then row_of old f ++ i ∷ [] else row_of old f)

  -- the same of the signature of a type, if it has one
  abbrev pub NotesType : DefType → ℕ → HashMap Signature (Vec ℕ Z) S → HashMap Signature (Vec ℕ Z) S → Type 0
  NotesType ty i old new = (f : Signature) → row_of new f ≡ (if has_signature f ty then row_of old f ++ i ∷ [] else row_of old f)

-- The rows are of these types, and of no more.
pub record AreRows (e : Equals) (types : List DefType) : Type 0 where
  pub count : e.noted ≡ length types
  pub rows_are : (f : Signature) → row_of e.rows f ≡ places (has_signature f) 0 types

-- They are of the first of these types.
abbrev pub AreFirst : Equals → List DefType → Type 0
AreFirst e types = AreRows e (take e.noted types)

-- No type is noted before equal types are first asked for.
abbrev pub AreNoted : Option (Box Equals Global) → List DefType → Type 0
AreNoted None types = ⊤
AreNoted (Some e) types = AreFirst e.value types

-- What is found of the types that are equal to a function type: the index of one of them, by a choice, or that there are none.
abbrev pub IsChosenEqual : List DefType → Signature → List ℕ → Option ℕ → List ℕ → Type 0
IsChosenEqual types s bytes None rest = (places (has_signature s) 0 types ≡ []) × (rest ≡ bytes)
IsChosenEqual types s bytes (Some i) rest = ReadsAmong (places (has_signature s) 0 types) bytes i rest
