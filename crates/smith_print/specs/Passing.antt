-- What follows a piece in some bytes, and offsets that are added on the way.
use Rattle.std.specs.Prelude.{◌≡◌, List, ◌++◌, ℕ, Some, Result, IfOk}
use Rattle.std.specs.Borrow.{Bor}
use Rattle.smith_format.specs.Piece.{Piece, ◌⊕◌}
use Rattle.smith_read.specs.declared.unread.Unread.{Unread}

-- If the bytes begin with the piece, what was returned follows it.
abbrev pub Passes : Result (Bor (List ℕ)) Unread → List ℕ → Piece → Type 0
Passes result bs p = (rest : List ℕ) → p ⊕ Some rest ≡ Some bs → IfOk result (λ x. x.now ≡ rest)

-- What was returned are those bytes, and new holds what old held, and then the offsets.
abbrev pub Places : Result (Bor (List ℕ)) Unread → List ℕ → List ℕ → List ℕ → List ℕ → Type 0
Places result rest old new offsets = IfOk result (λ x. (x.now ≡ rest) × (new ≡ old ++ offsets))
