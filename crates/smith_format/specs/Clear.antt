-- When bytes can be read in only one way.
use Rattle.std.specs.Prelude.{◌≡◌, ℕ, List, Some}
use Rattle.smith_format.specs.Piece.{Piece, ◌⊕◌}

-- both are the same bytes
pub record Rests (p q : Piece) : Type 0 where
  pub rest : List ℕ
  pub first : p ≡ Some rest
  pub second : q ≡ Some rest

-- both read the same, and leave the same bytes
pub record Agree {A : Type 0} (x y : A) (p q : Piece) : Type 0 where
  pub same : x ≡ y
  pub rests : Rests p q

-- Bytes that begin with an encoding of this sort begin with only one: no encoding of it is a prefix of another, and each ends
-- by itself, whatever follows it.
pub record IsClear {A : Type 0} (f : A → Piece) : Type 0 where
  pub law : (x y : A) (p q : Piece) (b : List ℕ) → f x ⊕ p ≡ Some b → f y ⊕ q ≡ Some b → Agree x y p q

-- Bytes that are an encoding of this sort from their beginning to their end are only one.
pub record IsExact {A : Type 0} (f : A → Piece) : Type 0 where
  pub law : (x y : A) (b : List ℕ) → f x ≡ Some b → f y ≡ Some b → x ≡ y
