-- How writers follow one another.
use Rattle.std.proofs.Common.{◌≡◌, ℕ, ◌+◌, ◌<◌, ◌≤◌, ◌⊎◌, inl, inr, List, [], ◌++◌, refl, ap, append-nil, length-append, arith, Some, None, sym, ◌∙◌, subst}
use Rattle.std.proofs.Common.{Result, Ok, Err, IsErrAnd, Bool, true, false, nat_le, take, drop, length, take_all, ◌∷◌, append_assoc}
use Rattle.std.proofs.lemmas.Bool.{leb-true, leb-false}
use Rattle.std.proofs.lemmas.List.{take-append-drop, take-append-le, length-take, length-take-le}
use Rattle.std.proofs.Math.Seq.{take-append_seam}
use Rattle.std.specs.Vec.{vec_len, vec_capacity}
use Rattle.std.specs.declared.vec.Vec.{Vec}
use Rattle.std.specs.declared.alloc.Global.{Global}
use Rattle.smith_input.specs.declared.error.Error.{Error}
use Rattle.smith_input.specs.declared.error.Error.TheVariants.{TooLong}
use Rattle.smith_format.specs.Piece.{Piece, ◌⊕◌, byte, u, framed, sized}
use Rattle.smith_format.specs.Writing.{Gains, Begins, Keeps, IsDue, Puts, Appends, Takes, WantsMemoryFor, piece_length}
use Rattle.smith_format.proofs.Piece.{text_is, assoc, right_none, left_none, joined, length_join}

pub take_take : (i j : ℕ) (xs : List ℕ) → i ≤ j → take i (take j xs) ≡ take i xs
take_take i j xs h = take_cases (nat_le j (length xs)) refl
  where
    take_cases : (b : Bool) → nat_le j (length xs) ≡ b → take i (take j xs) ≡ take i xs
    take_cases true e =
        let l : j ≤ length xs = leb-true j (length xs) e in
        sym (take-append-le i (take j xs) (drop j xs) (omega (arith, length-take-le j xs l))) ∙ ap (take i) (take-append-drop j xs)
    take_cases false e = ap (take i) (take_all j xs (let l = leb-false j (length xs) e in omega arith))

pub begins_bytes : {old new : Vec ℕ Global} (bs : List ℕ) → new.items ≡ old.items ++ bs → vec_capacity old ≤ vec_capacity new → Begins old new
begins_bytes {old} {new} bs e h = record {
  is = ap (λ l. take l new.items) old.ok.0 ∙ ap (take (length old.items)) e ∙ take-append_seam old.items bs;
  capacity = h;
}

pub keeps_same : {a : Vec ℕ Global} → Keeps a a
keeps_same {a} = record { is = refl; capacity = omega arith }

pub keeps_begins : {a b : Vec ℕ Global} → Keeps a b → Begins a b
keeps_begins {a} {b} k = begins_bytes [] (k.is ∙ sym (append-nil a.items)) k.capacity

begun_length : {a b : Vec ℕ Global} → Begins a b → vec_len a ≤ vec_len b
begun_length {a} {b} g = let l = ap length g.is in omega (arith, length-take (vec_len a) b.items, a.ok.0, b.ok.0)

pub begins_then : {a b c : Vec ℕ Global} → Begins a b → Begins b c → Begins a c
begins_then {a} {b} {c} g h =
    record {
      is = sym (take_take (vec_len a) (vec_len b) c.items (begun_length g)) ∙ ap (take (vec_len a)) h.is ∙ g.is;
      capacity = omega (arith, g.capacity, h.capacity);
    }

pub gains_bytes : {old new : Vec ℕ Global} (bs : List ℕ) → new.items ≡ old.items ++ bs → vec_capacity old ≤ vec_capacity new → Gains old new (Some bs)
gains_bytes {old} {new} bs e h =
    record {
      is = ap Some e ∙ sym (joined old.items bs);
      begins = begins_bytes bs e h;
      length = omega (arith, ap length e, length-append old.items bs, old.ok.0, new.ok.0);
    }

pub gains_nothing : {a : Vec ℕ Global} → Gains a a (Some [])
gains_nothing {a} = gains_bytes [] (sym (append-nil a.items)) (omega arith)

pub gained : {old new : Vec ℕ Global} (bs : List ℕ) → Gains old new (Some bs) → new.items ≡ old.items ++ bs
unfolding ◌⊕◌
gained bs g = let e = g.is in cc

spelled : (a b : List ℕ) (p : Piece) → Some b ≡ Some a ⊕ p → (s : List ℕ) × (p ≡ Some s)
unfolding ◌⊕◌
spelled a b None e = cc
spelled a b (Some s) e = (s, refl)

-- what was put has an encoding
pub gains_some : {old new : Vec ℕ Global} {p : Piece} → Gains old new p → (s : List ℕ) × (p ≡ Some s)
gains_some {old} {new} {p} g = spelled old.items new.items p g.is

pub gains_then : {a b c : Vec ℕ Global} {p q : Piece} → Gains a b p → Gains b c q → Gains a c (p ⊕ q)
gains_then {a} {b} {c} {p} {q} g h =
    let x = gains_some g in
    let y = gains_some h in
    let l : piece_length (p ⊕ q) ≡ piece_length p + piece_length q = ap (λ z. piece_length (z ⊕ q)) x.1 ∙ ap (λ z. piece_length (Some x.0 ⊕ z)) y.1
    ∙ ap piece_length (joined x.0 y.0) ∙ length-append x.0 y.0 ∙ ap (λ z. piece_length z + length y.0) (sym x.1)
    ∙ ap (λ z. piece_length p + piece_length z) (sym y.1) in
    record {
      is = h.is ∙ ap (λ z. z ⊕ q) g.is ∙ assoc (Some a.items) p q;
      begins = begins_then g.begins h.begins;
      length = omega (arith, g.length, h.length);
    }

pub gains_begins : {a b c : Vec ℕ Global} {p : Piece} → Gains a b p → Begins b c → Begins a c
gains_begins g h = begins_then g.begins h

pub due_none : {old : Vec ℕ Global} {p : Piece} → p ≡ None → IsDue TooLong old p
due_none e = record { only = inl refl; too_long = λ _. e; full = λ h. cc }

full_left : (a : Vec ℕ Global) (p q : Piece) → (p ≡ None) ⊎ (vec_capacity a < vec_len a + piece_length p)
    → (p ⊕ q ≡ None) ⊎ (vec_capacity a < vec_len a + piece_length (p ⊕ q))
full_left a p q (inl n) = inl (ap (λ x. x ⊕ q) n ∙ left_none q)
full_left a p q (inr h) = elim (length_join p q) [ inl n ↦ inl n | inr l ↦ inr (omega arith) ]

pub due_left : {e : Error} {a : Vec ℕ Global} {p : Piece} (q : Piece) → IsDue e a p → IsDue e a (p ⊕ q)
due_left {e} {a} {p} q d =
    record { only = d.only; too_long = λ h. ap (λ x. x ⊕ q) (d.too_long h) ∙ left_none q; full = λ h. full_left a p q (d.full h) }

full_right : (a b : Vec ℕ Global) (p q : Piece) → Gains a b p → (q ≡ None) ⊎ (vec_capacity b < vec_len b + piece_length q)
    → (p ⊕ q ≡ None) ⊎ (vec_capacity a < vec_len a + piece_length (p ⊕ q))
full_right a b p q g (inl n) = inl (ap (λ x. p ⊕ x) n ∙ right_none p)
full_right a b p q g (inr h) = elim (length_join p q) [ inl n ↦ inl n | inr l ↦ inr (omega (arith, g.length, g.begins.capacity)) ]

pub due_right : {e : Error} {a b : Vec ℕ Global} {p q : Piece} → Gains a b p → IsDue e b q → IsDue e a (p ⊕ q)
due_right {e} {a} {b} {p} {q} g d =
    record { only = d.only; too_long = λ h. ap (λ x. p ⊕ x) (d.too_long h) ∙ right_none p; full = λ h. full_right a b p q g (d.full h) }

-- the exit of a `?` that passes an error on
pub exits : {A : Type 0} (r : Result A Error) (e : Error) {a b : Vec ℕ Global} {p : Piece} → IsErrAnd r (λ y. y ≡ e) → Begins a b → IsDue e a p → Puts r a b p
exits (Ok x) e {a} {b} {p} is g d = absurd is
exits (Err y) e {a} {b} {p} is g d = (g, subst (λ (z : Error). IsDue z a p) (sym is) d)

-- and with more to follow
pub exits_between : {A : Type 0} (r : Result A Error) (e : Error) {a b c : Vec ℕ Global} {p q : Piece} (s : Piece) → IsErrAnd r (λ y. y ≡ e) → Gains a b p
    → Begins b c → IsDue e b q → Puts r a c (p ⊕ q ⊕ s)
exits_between r e s is g h d = exits r e is (gains_begins g h) (due_right g (due_left s d))

-- a last call whose result is returned
pub appends_puts : {A : Type 0} (r : Result A Error) (a b : Vec ℕ Global) (p : Piece) → Appends r a b p → Puts r a b p
appends_puts (Ok x) a b p h = h
appends_puts (Err e) a b p h = (keeps_begins h.0, h.1)

pub ends : {A : Type 0} (r : Result A Error) {a b : Vec ℕ Global} (c : Vec ℕ Global) {p : Piece} (q : Piece) → Gains a b p → Puts r b c q → Puts r a c (p ⊕ q)
ends (Ok x) c q g h = gains_then g h
ends (Err e) c {p} q g h = (gains_begins g h.0, due_right g h.1)

pub ends_appending : {A : Type 0} (r : Result A Error) {a b : Vec ℕ Global} (c : Vec ℕ Global) {p : Piece} (q : Piece) → Gains a b p → Appends r b c q
    → Puts r a c (p ⊕ q)
ends_appending r {a} {b} c q g h = ends r c q g (appends_puts r b c q h)

pub ends_third : {A : Type 0} (r : Result A Error) {a b c : Vec ℕ Global} (d : Vec ℕ Global) {p q : Piece} (s : Piece) → Gains a b p → Gains b c q
    → Puts r c d s → Puts r a d (p ⊕ q ⊕ s)
ends_third r d s g h k = ends r d _ g (ends r d s h k)

pub ends_third_appending : {A : Type 0} (r : Result A Error) {a b c : Vec ℕ Global} (d : Vec ℕ Global) {p q : Piece} (s : Piece) → Gains a b p → Gains b c q
    → Appends r c d s → Puts r a d (p ⊕ q ⊕ s)
ends_third_appending r {a} {b} {c} d s g h k = ends_third r d s g h (appends_puts r c d s k)

-- contents after their length
pub framed_bytes : (b : List ℕ) → framed (Some b) ≡ u (length b) ⊕ Some b
unfolding framed
framed_bytes b = refl

pub framed_nothing : framed None ≡ None
unfolding framed
framed_nothing = refl

pub framed_is : {n : ℕ} (p : Piece) → Takes n p → framed p ≡ u n ⊕ p
framed_is None t = absurd (t.spelled (λ i. None))
framed_is (Some b) t = framed_bytes b ∙ ap (λ m. u m ⊕ Some b) (sym t.long)

pub sized_is : (id : ℕ) {n : ℕ} {p : Piece} → Takes n p → sized id p ≡ (byte id ⊕ u n) ⊕ p
sized_is id {n} {p} t = ap (λ q. byte id ⊕ q) (framed_is p t) ∙ sym (assoc (byte id) (u n) p)

pub ends_sized : {A : Type 0} (r : Result A Error) (id : ℕ) {n : ℕ} {a b : Vec ℕ Global} (c : Vec ℕ Global) {p : Piece} → Takes n p → Gains a b (byte id ⊕ u n)
    → Puts r b c p → Puts r a c (sized id p)
ends_sized r id c {p} t g h = rw (sized_is id t) (ends r c p g h)

-- what has an encoding may need memory
pub wants_some : {A : Type 0} (r : Result A Error) {p : Piece} {b : List ℕ} → p ≡ Some b → WantsMemoryFor r p
wants_some (Ok x) e = tt
wants_some (Err x) e = λ _ n. cc

-- loops over the digits of a number

-- What was put, and then `left`, is what was there and then `all`.
pub record Towards (old : Vec ℕ Global) (all : List ℕ) (new : Vec ℕ Global) (left : List ℕ) : Type 0 where
  pub begun : Begins old new
  pub is : new.items ++ left ≡ old.items ++ all

pub towards_next : (old : Vec ℕ Global) (all : List ℕ) (mid new : Vec ℕ Global) (x : ℕ) (left rest : List ℕ) → Towards old all mid left → left ≡ x ∷ rest
    → Gains mid new (byte x) → Towards old all new rest
towards_next old all mid new x left rest t e g =
    let f = gained (x ∷ []) g in
    record {
      begun = begins_then t.begun (begins_bytes (x ∷ []) f g.begins.capacity);
      is = ap (λ l. l ++ rest) f ∙ append_assoc mid.items (x ∷ []) rest ∙ ap (λ l. mid.items ++ l) (sym e) ∙ t.is;
    }

pub towards_exit : {A : Type 0} (r : Result A Error) (e : Error) (old : Vec ℕ Global) (all : List ℕ) (mid new : Vec ℕ Global) (x : ℕ) (left : List ℕ)
    → IsErrAnd r (λ y. y ≡ e) → Towards old all mid left → 0 < length left → Keeps mid new × IsDue e mid (byte x) → Puts r old new (Some all)
towards_exit r e old all mid new x left is t h d =
    exits r e is (begins_then t.begun (keeps_begins d.0)) (record {
      only = d.1.only;
      too_long = λ z. let w = d.1.too_long z in cc;
      full = λ z. inr (full_byte (d.1.full z) (ap length t.is));
    }) where
      full_byte : (byte x ≡ None) ⊎ (vec_capacity mid < vec_len mid + 1) → length (mid.items ++ left) ≡ length (old.items ++ all)
          → vec_capacity old < vec_len old + length all
      full_byte (inl n) l = cc
      full_byte (inr m) l = omega (arith, t.begun.capacity, length-append mid.items left, length-append old.items all, old.ok.0, mid.ok.0)

pub towards_end : {A : Type 0} (r : Result A Error) (old : Vec ℕ Global) (all : List ℕ) (mid new : Vec ℕ Global) (x : ℕ) (left : List ℕ)
    → Towards old all mid left → left ≡ x ∷ [] → Appends r mid new (byte x) → Puts r old new (Some all)
towards_end (Ok v) old all mid new x left t e g =
    gains_bytes all (gained (x ∷ []) g ∙ ap (λ l. mid.items ++ l) (sym e) ∙ t.is) (omega (arith, t.begun.capacity, g.begins.capacity))
towards_end {A} (Err y) old all mid new x left t e d =
    towards_exit {A = A} (Err y) y old all mid new x left refl t (let l = ap length e in omega arith) d

pub ruleset writing = (
  take_take,
  gains_bytes,
  gains_nothing,
  gains_then,
  keeps_begins,
  left_none,
  right_none,
  length_join,
  framed_bytes,
  text_is,
  ends,
  ends_appending,
  ends_third,
  ends_third_appending,
)
