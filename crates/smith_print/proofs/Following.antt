-- What follows pieces, one after another.
use Rattle.std.proofs.Common.{◌≡◌, ℕ, ◌+◌, ◌<◌, ◌≤◌, Bool, true, false, List, length, drop, get_or, Some, None, Result, ap, sym, ◌∙◌}
use Rattle.std.proofs.lemmas.List.{drop_at}
use Rattle.std.proofs.lemmas.Option.{same_Some}
use Rattle.std.specs.Borrow.{Bor}
use Rattle.smith_input.proofs.Rests.{drop_past, rest_at}
use Rattle.smith_format.specs.Piece.{Piece, ◌⊕◌, byte, each}
use Rattle.smith_format.specs.Writing.{piece_length}
use Rattle.smith_format.proofs.Piece.{left_nil, left_none, parts_are}
use Rattle.smith_syntax.specs.Grammar.{importdecl, named_extern}
use Rattle.smith_syntax.specs.declared.deftype.ComponentTypeRef.{ComponentTypeRef}
use Rattle.smith_read.specs.Reading.{Found}
use Rattle.smith_read.specs.Tells.{Tells}
use Rattle.smith_read.specs.declared.unread.Unread.{Unread}
use Rattle.smith_read.proofs.Telling.{parted}
use Rattle.smith_print.specs.Passing.{Passes}

pub past_piece : (p : Piece) (b rest : List ℕ) (n : ℕ) → n ≡ piece_length p → p ⊕ Some rest ≡ Some b → drop n b ≡ rest
past_piece p b rest n long e =
    let s = parts_are p (Some rest) b e in
    ap (drop n) s.is ∙ drop_at s.left s.right n (sym (ap piece_length s.p_is) ∙ sym long) ∙ sym (same_Some rest s.right s.q_is)

pub read_past : {A : Type 0} (f : A → Piece) (reading : List ℕ → Found A) → Tells f reading → (x y : A) (b mid rest : List ℕ)
    → reading b ≡ Some (y, mid) → f x ⊕ Some rest ≡ Some b → mid ≡ rest
read_past f reading told x y b mid rest e g = ap (λ z. z.1) (same_Some (y, mid) (x, rest) (sym e ∙ told.whole b (x, rest) g))

-- one piece, and then the next
pub passes_then : (r : Result (Bor (List ℕ)) Unread) (p q : Piece) (b mid : List ℕ) → ((rest : List ℕ) → p ⊕ Some rest ≡ Some b → mid ≡ rest)
    → Passes r mid q → Passes r b (p ⊕ q)
passes_then r p q b mid front next = λ rest e. let s = parted p q b rest e in next rest (s.back ∙ ap Some (sym (front s.mid s.front)))

pub passes_import : (r : Result (Bor (List ℕ)) Unread) (b : List ℕ) (importing : Bool) (name : List ℕ) (to : ComponentTypeRef)
    → Passes r b (byte 0x03 ⊕ named_extern name to) → Passes r b (importdecl importing name to)
passes_import r b true name to h = h
passes_import r b false name to h = λ rest e. let z : None ≡ Some b = sym (left_none (Some rest)) ∙ e in absurd cc

-- entries one after another

module _ {A : Type 0} (f : A → Piece) where
  -- what is left of the bytes begins with the entries from i on
  abbrev pub Left : List A → ℕ → List ℕ → List ℕ → Type 0
  Left xs i b r = (rest : List ℕ) → each f xs ⊕ Some rest ≡ Some b → each f (drop i xs) ⊕ Some rest ≡ Some r

  pub left_next : (xs : List A) (i : ℕ) (x : A) (b r next : List ℕ) → Left xs i b r → i < length xs → x ≡ get_or xs i x
      → ((rest : List ℕ) → f x ⊕ Some rest ≡ Some r → next ≡ rest) → Left xs (i + 1) b next
  left_next xs i x b r next h low at step = λ rest e.
      let s = parted (f x) (each f (drop (i + 1) xs)) r rest (sym (ap (λ ys. each f ys ⊕ Some rest) (rest_at xs i x low at)) ∙ h rest e) in
      s.back ∙ ap Some (sym (step s.mid s.front))

  pub left_done : (xs : List A) (i : ℕ) (b r : List ℕ) → Left xs i b r → length xs ≤ i → (rest : List ℕ) → each f xs ⊕ Some rest ≡ Some b → r ≡ rest
  left_done xs i b r h past = λ rest e.
      same_Some r rest (sym (h rest e) ∙ ap (λ ys. each f ys ⊕ Some rest) (drop_past xs i past) ∙ left_nil (Some rest))
