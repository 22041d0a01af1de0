-- What a writer did to a buffer that holds a text backwards, its last byte first.
use Rattle.std.specs.Prelude.{◌≡◌, ℕ, ◌≤◌, reverse, Some, Result, Ok, Err}
use Rattle.std.specs.Vec.{vec_capacity}
use Rattle.std.specs.declared.vec.Vec.{Vec}
use Rattle.std.specs.declared.alloc.Global.{Global}
use Rattle.smith_input.specs.declared.error.Error.{Error}
use Rattle.smith_format.specs.Piece.{Piece, ◌⊕◌}
use Rattle.smith_format.specs.Writing.{IsDue}

-- the text of new is the piece, and then the text of old; and the writer did not lower the capacity
pub record Leads (old new : Vec ℕ Global) (p : Piece) : Type 0 where
  pub is : Some (reverse new.items) ≡ p ⊕ Some (reverse old.items)
  pub capacity : vec_capacity old ≤ vec_capacity new

-- A writer put the piece in front of the text that was there. After an error any bytes may be in the buffer.
abbrev pub Precedes : {A : Type 0} → Result A Error → Vec ℕ Global → Vec ℕ Global → Piece → Type 0
Precedes (Ok _) old new p = Leads old new p
Precedes (Err e) old new p = IsDue e old p
