-- When reading yields exactly what is spelled.
use Rattle.std.specs.Prelude.{◌≡◌, ℕ, List, Some}
use Rattle.smith_format.specs.Piece.{Piece, ◌⊕◌}
use Rattle.std.specs.Prelude.{Option}
use Rattle.smith_read.specs.Reading.{Found}

-- the bytes begin with the spelling of that value, and those bytes follow it
abbrev pub Begins : {A : Type 0} → (A → Piece) → List ℕ → A × List ℕ → Type 0
Begins f b x = f x.0 ⊕ Some x.1 ≡ Some b

-- What is read is spelled at the front of the bytes, and what is spelled there is read.
pub record Tells {A : Type 0} (f : A → Piece) (reading : List ℕ → Found A) : Type 0 where
  pub sound : (b : List ℕ) (x : A × List ℕ) → reading b ≡ Some x → Begins f b x
  pub whole : (b : List ℕ) (x : A × List ℕ) → Begins f b x → reading b ≡ Some x

-- The same for what fills its bytes.
pub record TellsAll {A : Type 0} (f : A → Piece) (reading : List ℕ → Option A) : Type 0 where
  pub sound : (b : List ℕ) (x : A) → reading b ≡ Some x → f x ≡ Some b
  pub whole : (b : List ℕ) (x : A) → f x ≡ Some b → reading b ≡ Some x
