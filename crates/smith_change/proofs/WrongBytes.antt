-- Bytes that are written wrongly: the sections in them.
use Rattle.std.proofs.Common.{◌≡◌, ℕ, ◌+◌, ◌-◌, ◌<◌, ◌≤◌, List, [], ◌∷◌, ◌++◌, length, take, drop, get_or, Option, Some, None, ap, sym, subst, ◌∙◌, arith}
use Rattle.std.proofs.lemmas.List.{take-append-drop}
use Rattle.std.specs.Option.{SomeIff}
use Rattle.std.specs.Prelude.{IfOk, IfSome, Result, Ok, Err}
use Rattle.smith_format.specs.Piece.{◌⊕◌, byte, u}
use Rattle.smith_format.proofs.Piece.{assoc, joined, left_nil}
use Rattle.smith_read.specs.Reading.{u_at}
use Rattle.smith_read.proofs.Telling.{tells_u}
use Rattle.smith_change.specs.Miswritten.{Miswrites, counted, longer, most_count, shorter, with_section}
use Rattle.smith_change.specs.declared.miswritten.Miswriting.TheVariants.{Longer, Shorter, Count}

-- The front of bytes that were read as an id and a length.
pub section_front : (bs tail rest : List ℕ) (size : ℕ) → 0 < length bs → tail ≡ drop 1 bs → u_at tail ≡ Some (size, rest)
    → byte (get_or bs 0 0) ⊕ (u size ⊕ Some rest) ≡ Some bs
section_front [] tail rest size h is e = absurd (omega arith)
section_front (b ∷ bs) tail rest size h is e = ap (λ p. byte b ⊕ p) (tells_u.sound tail (size, rest) e) ∙ joined (b ∷ []) tail ∙ ap (λ bs. Some (b ∷ bs)) is

-- a number, put before the rest
pub put_first : (none headed all rest : List ℕ) (n : ℕ) → none ≡ [] → Some headed ≡ Some none ⊕ u n → all ≡ headed ++ rest
    → u n ⊕ Some rest ≡ Some all
put_first none headed all rest n nothing head is =
    ap (λ p. p ⊕ Some rest) (sym (head ∙ ap (λ l. Some l ⊕ u n) nothing ∙ left_nil (u n))) ∙ joined headed rest ∙ ap Some (sym is)

-- the greatest count, put before the rest
pub put_most : (none headed all rest : List ℕ) (n : ℕ) → none ≡ [] → Some headed ≡ Some none ⊕ u n → all ≡ headed ++ rest → n ≡ most_count
    → u most_count ⊕ Some rest ≡ Some all
put_most none headed all rest n nothing head is most =
    subst (λ m. u m ⊕ Some rest ≡ Some all) most (put_first none headed all rest n nothing head is)

-- a section, put behind others piece by piece
pub put_behind : (front headed all rest : List ℕ) (id size : ℕ) → Some headed ≡ Some (front ++ id ∷ []) ⊕ u size → all ≡ headed ++ rest
    → with_section front id size (Some rest) ≡ Some all
put_behind front headed all rest id size head is =
    sym (assoc (Some front) (byte id) (u size ⊕ Some rest)) ∙ ap (λ p. p ⊕ (u size ⊕ Some rest)) (joined front (id ∷ []))
    ∙ sym (assoc (Some (front ++ id ∷ [])) (u size) (Some rest)) ∙ ap (λ p. p ⊕ Some rest) (sym head) ∙ joined headed rest ∙ ap Some (sym is)

-- a section behind the bytes in front of it
pub section_there : (given front back rest : List ℕ) (at id size : ℕ) → front ≡ take at given → back ≡ drop at given
    → byte id ⊕ (u size ⊕ Some rest) ≡ Some back → with_section front id size (Some rest) ≡ Some given
section_there given front back rest at id size before behind e =
    ap (λ p. Some front ⊕ p) e ∙ joined front back
    ∙ ap Some (ap (λ l. l ++ back) before ∙ ap (λ l. take at given ++ l) behind ∙ take-append-drop at given)

-- of what is there, if it is, one thing follows from another
pub made : {A E : Type 0} (P Q : A → Type 0) (r : Result (Option A) E) → ((x : A) → P x → Q x)
    → IfOk r (λ o. IfSome o P) → IfOk r (λ o. IfSome o Q)
made P Q (Ok (Some x)) f h = f x h
made P Q (Ok None) f h = h
made P Q (Err e) f h = h

-- the number that a checked sum or difference is
pub only_number : (r : Option ℕ) (P : Type 0) (m n : ℕ) → SomeIff r P m → r ≡ Some n → P × (n ≡ m)
only_number None P m n h e = absurd cc
only_number (Some x) P m n h e = (h.0, let f : n ≡ m = cc in f)

module _ (given front rest : List ℕ) (id size : ℕ) (there : with_section front id size (Some rest) ≡ Some given) where
  pub made_longer : (r : Option ℕ) (P : Type 0) (n : ℕ) (new : List ℕ) → SomeIff r P (size + 1) → r ≡ Some n
      → with_section front id n (Some rest) ≡ Some new → Miswrites Longer given new
  made_longer r P n new checked is e =
      longer given new front rest id size there (subst (λ m. with_section front id m (Some rest) ≡ Some new) (only_number r P (size + 1) n checked is).1 e)

  pub made_shorter : (r : Option ℕ) (n : ℕ) (new : List ℕ) → SomeIff r (1 ≤ size) (size - 1) → r ≡ Some n
      → with_section front id n (Some rest) ≡ Some new → Miswrites Shorter given new
  made_shorter r n new checked is e =
      let o = only_number r (1 ≤ size) (size - 1) n checked is in
      let f : size ≡ n + 1 = omega (arith, o.0, o.1) in
      shorter given new front rest id n (subst (λ m. with_section front id m (Some rest) ≡ Some given) f there) e

  pub made_counted : (n : ℕ) (entries new : List ℕ) → u n ⊕ Some entries ≡ Some rest
      → with_section front id size (u most_count ⊕ Some entries) ≡ Some new → Miswrites Count given new
  made_counted n entries new counted_by e =
      counted given new front entries id size n (ap (with_section front id size) counted_by ∙ there) e
