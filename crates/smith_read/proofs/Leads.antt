-- Texts that are written backwards.
use Rattle.std.proofs.Common.{◌≡◌, ℕ, suc, ◌+◌, ◌-◌, ◌<◌, ◌≤◌, ◌⊎◌, inl, inr, List, [], ◌++◌, length, take, drop, get_or, ap, sym, ◌∙◌, subst, arith}
use Rattle.std.proofs.Common.{Some, Result, Ok, Err, IsErrAnd, length-append, reverse, ◌∷◌, ap₂, append-nil}
use Rattle.std.proofs.lemmas.List.{drop_all, drop_at, take_at, take_rest, reverse-append, reverse-reverse, length-drop, length-reverse, length-take-le}
use borrow.Rule.Slice.PartMut.{post_of}
use Rattle.std.proofs.lemmas.Option.{same_Some}
use Rattle.std.proofs.Math.Seq.{drop-cons}
use Rattle.std.specs.Vec.{vec_len, vec_capacity}
use Rattle.std.specs.declared.vec.Vec.{Vec}
use Rattle.std.specs.declared.alloc.Global.{Global}
use Rattle.smith_input.specs.declared.error.Error.{Error}
use Rattle.smith_format.specs.Piece.{Piece, ◌⊕◌, byte, each, framed, sized}
use Rattle.smith_format.specs.Writing.{Gains, IsDue, Takes, piece_length}
use Rattle.smith_format.proofs.Many.{each_at}
use Rattle.smith_format.proofs.Piece.{assoc, joined, left_nil, left_none, right_nil, right_none, length_join, parts_are}
use Rattle.smith_format.proofs.Sizes.{framed_cases}
use Rattle.smith_format.proofs.Steps.{framed_nothing, gained, gains_some}
use Rattle.smith_read.specs.Leads.{Leads, Precedes}

pub leads_nothing : {a : Vec ℕ Global} → Leads a a (Some [])
leads_nothing {a} = record { is = sym (left_nil (Some (reverse a.items))); capacity = omega arith }

pub leads_then : {a b c : Vec ℕ Global} {p q : Piece} → Leads a b q → Leads b c p → Leads a c (p ⊕ q)
leads_then {a} {b} {c} {p} {q} g h = record {
  is = h.is ∙ ap (λ z. p ⊕ z) g.is ∙ sym (assoc p q (Some (reverse a.items)));
  capacity = omega (arith, g.capacity, h.capacity);
}

pub leads_length : {a b : Vec ℕ Global} {p : Piece} → Leads a b p → vec_len b ≡ vec_len a + piece_length p
leads_length {a} {b} {p} g =
    let x = parts_are p (Some (reverse a.items)) (reverse b.items) (sym g.is) in
    let put : piece_length p ≡ length x.left = ap piece_length x.p_is in
    let behind : length (reverse a.items) ≡ length x.right = ap length (same_Some (reverse a.items) x.right x.q_is) in
    let all : length (reverse b.items) ≡ length (x.left ++ x.right) = ap length x.is in
    omega (arith, put, behind, all, length-append x.left x.right, length-reverse a.items, length-reverse b.items, a.ok.0, b.ok.0)

pub leads_some : {a b : Vec ℕ Global} {p : Piece} → Leads a b p → (s : List ℕ) × (p ≡ Some s)
leads_some {a} {b} {p} g = let x = parts_are p (Some (reverse a.items)) (reverse b.items) (sym g.is) in (x.left, x.p_is)

-- all that is in a buffer that was empty
pub leads_whole : {a b : Vec ℕ Global} {p : Piece} → a.items ≡ [] → Leads a b p → p ≡ Some (reverse b.items)
leads_whole {a} {b} {p} e g = sym (g.is ∙ ap (λ xs. p ⊕ Some (reverse xs)) e ∙ right_nil p)

-- a list whose end is reversed
pub tail_reversed : (start : ℕ) (xs ys : List ℕ) → ys ≡ reverse (take (length xs - start) (drop start xs))
    → take start xs ++ (ys ++ post_of start (length xs - start) xs) ≡ take start xs ++ reverse (drop start xs)
tail_reversed start xs ys e = grind (arith, drop_all, length-drop, take_rest, append-nil)

pub length-reversed-end : (start : ℕ) (xs : List ℕ) → start ≤ length xs → length (take start xs ++ reverse (drop start xs)) ≡ length xs
length-reversed-end start xs h = grind (arith, length-append, length-take-le, length-reverse, length-drop)

-- what was put forwards, reversed
pub reversed : {old mid new : Vec ℕ Global} {p : Piece} (start : ℕ) → start ≡ vec_len old → Gains old mid p
    → new.items ≡ take start mid.items ++ reverse (drop start mid.items) → vec_capacity mid ≤ vec_capacity new → Leads old new p
reversed {old} {mid} {new} {p} start at g e room =
    let x = gains_some g in
    let all : mid.items ≡ old.items ++ x.0 = gained x.0 (subst (λ (q : Piece). Gains old mid q) x.1 g) in
    let first : length old.items ≡ start = sym (at ∙ old.ok.0) in
    let front : take start mid.items ≡ old.items = ap (take start) all ∙ take_at old.items x.0 start first in
    let back : drop start mid.items ≡ x.0 = ap (drop start) all ∙ drop_at old.items x.0 start first in
    let whole : new.items ≡ old.items ++ reverse x.0 = e ∙ ap₂ (λ xs ys. xs ++ reverse ys) front back in
    let is : reverse new.items ≡ x.0 ++ reverse old.items = ap reverse whole ∙ reverse-append old.items (reverse x.0)
    ∙ ap (λ l. l ++ reverse old.items) (reverse-reverse x.0) in
    record {
      is = ap Some is ∙ sym (joined x.0 (reverse old.items)) ∙ ap (λ z. z ⊕ Some (reverse old.items)) (sym x.1);
      capacity = omega (arith, g.begins.capacity);
    }

-- how long the piece is by the lengths of the buffer
pub leads_takes : {a b : Vec ℕ Global} {p : Piece} (n : ℕ) → Leads a b p → vec_len b ≡ vec_len a + n → Takes n p
leads_takes {a} {b} {p} n g h =
    let s = leads_some g in record { spelled = λ e. let f = s.1 in cc; long = omega (arith, leads_length g) }

-- what cannot be put in front of what was

pub due_front : {e : Error} {a b : Vec ℕ Global} {p q : Piece} → Leads a b q → IsDue e b p → IsDue e a (p ⊕ q)
due_front {e} {a} {b} {p} {q} g d = grind (arith, left_none, length_join, leads_length)

pub due_behind : {e : Error} {a : Vec ℕ Global} (p : Piece) {q : Piece} → IsDue e a q → IsDue e a (p ⊕ q)
due_behind {e} {a} p {q} d = grind (arith, right_none, length_join)

pub due_sized : {e : Error} {a : Vec ℕ Global} (id : ℕ) {p : Piece} → IsDue e a p → IsDue e a (sized id p)
due_sized {e} {a} id {p} d = due_behind (byte id) (record {
  only = d.only;
  too_long = λ h. ap framed (d.too_long h) ∙ framed_nothing;
  full = λ h. elim (d.full h) [
    | inl n ↦ inl (ap framed n ∙ framed_nothing)
    | inr l ↦ elim (framed_cases p) [ inl n ↦ inl n.0 | inr k ↦ inr (omega (arith, k.2.long)) ]
  ];
})

-- the exit of a `?` that passes an error on
pub gives_up : {A : Type 0} (r : Result A Error) (e : Error) (a b : Vec ℕ Global) {p : Piece} → IsErrAnd r (λ y. y ≡ e) → IsDue e a p → Precedes r a b p
gives_up (Ok x) e a b {p} is d = absurd is
gives_up (Err y) e a b {p} is d = subst (λ (z : Error). IsDue z a p) (sym is) d

-- a last call whose result is returned
pub ends_front : {A : Type 0} (r : Result A Error) {a b : Vec ℕ Global} (c : Vec ℕ Global) (p : Piece) {q : Piece} → Leads a b q → Precedes r b c p
    → Precedes r a c (p ⊕ q)
ends_front (Ok x) c p g h = leads_then g h
ends_front (Err e) c p g h = due_front g h

module _ {A : Type 0} (f : A → Piece) where
  -- what a loop from the last of a list to the first has put so far
  pub record Put (xs : List A) (i : ℕ) (old new : Vec ℕ Global) : Type 0 where
    pub is : Leads old new (each f (drop i xs))

  pub put_none : (xs : List A) (i : ℕ) (a : Vec ℕ Global) → length xs ≤ i → Put xs i a a
  put_none xs i a h = record { is = subst (λ (ys : List A). Leads a a (each f ys)) (sym (drop_all i xs h)) leads_nothing }

  pub put_next : (xs : List A) (i j : ℕ) (x : A) (a b c : Vec ℕ Global) → Put xs j a b → j ≡ suc i → i < length xs → x ≡ get_or xs i x → Leads b c (f x)
      → Put xs i a c
  put_next xs i j x a b c p n h e g = record {
    is = subst (λ (ys : List A). Leads a c (each f ys)) (sym (drop-cons xs i x h ∙ ap (λ y. y ∷ drop (suc i) xs) (sym e)))
        (leads_then (subst (λ (k : ℕ). Leads a b (each f (drop k xs))) n p.is) g);
  }

  pub put_all : (xs : List A) (i : ℕ) (a b : Vec ℕ Global) → Put xs i a b → i ≤ 0 → Leads a b (each f xs)
  put_all xs i a b p h = let n : i ≡ 0 = omega arith in subst (λ (k : ℕ). Leads a b (each f (drop k xs))) n p.is

  -- one that cannot be put
  pub put_due : (xs : List A) (i j : ℕ) (x : A) (e : Error) (a b : Vec ℕ Global) → Put xs j a b → j ≡ suc i → i < length xs → x ≡ get_or xs i x
      → IsDue e b (f x) → IsDue e a (each f xs)
  put_due xs i j x e a b p n h is d =
      subst (λ (q : Piece). IsDue e a q) (sym (each_at f xs i x h is))
      (due_behind (each f (take i xs)) (due_front (subst (λ (k : ℕ). Leads a b (each f (drop k xs))) n p.is) d))
