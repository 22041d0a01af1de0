-- What a writer did to a buffer, and how long a piece is.
use Rattle.std.specs.Prelude.{◌≡◌, ℕ, length, ◌+◌, ◌^◌, ◌<◌, ◌≤◌, ◌⊎◌, take, Option, Some, None, Result, Ok, Err, IfErr}
use Rattle.std.specs.Vec.{vec_len, vec_capacity}
use Rattle.std.specs.declared.vec.Vec.{Vec}
use Rattle.std.specs.declared.alloc.Global.{Global}
use Rattle.smith_input.specs.declared.error.Error.{Error}
use Rattle.smith_input.specs.declared.error.Error.TheVariants.{TooLong, OutOfMemory}
use Rattle.smith_format.specs.Piece.{Piece, ◌⊕◌}

-- how many bytes the encoding has, and 0 if there is none
abbrev pub piece_length : Piece → ℕ
piece_length None = 0
piece_length (Some b) = length b

-- new begins with what old held, and the writer did not lower its capacity
pub record Begins (old new : Vec ℕ Global) : Type 0 where
  pub is : take (vec_len old) new.items ≡ old.items
  pub capacity : vec_capacity old ≤ vec_capacity new

-- new holds what old held
pub record Keeps (old new : Vec ℕ Global) : Type 0 where
  pub is : new.items ≡ old.items
  pub capacity : vec_capacity old ≤ vec_capacity new

-- new holds what old held, and then the piece; so it is longer by that
pub record Gains (old new : Vec ℕ Global) (p : Piece) : Type 0 where
  pub is : Some new.items ≡ Some old.items ⊕ p
  pub begins : Begins old new
  pub length : vec_len new ≡ vec_len old + piece_length p

-- A writer of the piece may return this error. What is too long has no encoding. It is out of memory only if old had no
-- room for the encoding. A piece of several parts that has no encoding may be refused so too, for the parts before the
-- one that is too long.
pub record IsDue (e : Error) (old : Vec ℕ Global) (p : Piece) : Type 0 where
  pub only : (e ≡ TooLong) ⊎ (e ≡ OutOfMemory)
  pub too_long : e ≡ TooLong → p ≡ None
  pub full : e ≡ OutOfMemory → (p ≡ None) ⊎ (vec_capacity old < vec_len old + piece_length p)

-- A writer put the piece after what was there. After an error, part of it may be there.
abbrev pub Puts : {A : Type 0} → Result A Error → Vec ℕ Global → Vec ℕ Global → Piece → Type 0
Puts (Ok _) old new p = Gains old new p
Puts (Err e) old new p = Begins old new × IsDue e old p

-- The same, but an error leaves all as it was.
abbrev pub Appends : {A : Type 0} → Result A Error → Vec ℕ Global → Vec ℕ Global → Piece → Type 0
Appends (Ok _) old new p = Gains old new p
Appends (Err e) old new p = Keeps old new × IsDue e old p

-- A writer is out of memory only for a piece that has an encoding: what is too long is refused as too long, however
-- much room there is.
abbrev pub WantsMemoryFor : {A : Type 0} → Result A Error → Piece → Type 0
WantsMemoryFor r p = IfErr r (λ e. e ≡ OutOfMemory → ¬ (p ≡ None))

-- the piece has an encoding, of n bytes
pub record Takes (n : ℕ) (p : Piece) : Type 0 where
  pub spelled : ¬ (p ≡ None)
  pub long : n ≡ piece_length p

-- the piece has no encoding of at most 4,294,967,295 bytes
pub record TakesTooMuch (p : Piece) : Type 0 where
  pub is : (p ≡ None) ⊎ (2 ^ 32 ≤ piece_length p)

-- The length of the piece's encoding, or None exactly if it has none of at most 4,294,967,295 bytes.
abbrev pub IsLengthOf : Option ℕ → Piece → Type 0
IsLengthOf (Some n) p = Takes n p × (n < 2 ^ 32)
IsLengthOf None p = TakesTooMuch p

-- The length of the piece's encoding, or TooLong exactly if it has none.
abbrev pub Measures : Result ℕ Error → Piece → Type 0
Measures (Ok n) p = Takes n p
Measures (Err e) p = (e ≡ TooLong) × (p ≡ None)
