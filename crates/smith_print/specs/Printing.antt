-- What a printer did to a text.
use Rattle.std.specs.Prelude.{◌≡◌, ℕ, List, ◌++◌, Some, None, Result, Ok, Err, OnOk, String, string_bytes}
use Rattle.std.specs.declared.alloc.Global.{Global}
use Rattle.smith_format.specs.Piece.{Piece, ◌⊕◌}
use Rattle.smith_print.specs.declared.error.PrintError.{PrintError}
use Rattle.smith_print.specs.declared.error.PrintError.TheVariants.{OtherCoreModule}

-- unless it ran out of memory, new holds what old held, and then the text
abbrev pub Prints : {A E : Type 0} → Result A E → String Global → String Global → List ℕ → Type 0
Prints result old new text = OnOk result (string_bytes new ≡ string_bytes old ++ text)

-- new holds what old held, and then the piece
pub record Adds (old new : String Global) (p : Piece) : Type 0 where
  pub is : Some (string_bytes new) ≡ Some (string_bytes old) ⊕ p

-- what is refused for a core module has no text
pub record IsRefused (e : PrintError) (p : Piece) : Type 0 where
  pub is : e ≡ OtherCoreModule → p ≡ None

-- The same of what may have no text.
abbrev pub PrintsPiece : {A : Type 0} → Result A PrintError → String Global → String Global → Piece → Type 0
PrintsPiece (Ok _) old new p = Adds old new p
PrintsPiece (Err e) old new p = IsRefused e p
