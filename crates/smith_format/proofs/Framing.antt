-- The length of a section's contents is put in front of them, digit by digit.
use Rattle.std.proofs.Common.{◌≡◌, ℕ, ◌+◌, ◌-◌, ◌/◌, ◌%◌, ◌<◌, ◌≤◌, ◌⊎◌, inl, inr, List, [], ◌∷◌, ◌++◌, refl, ap, ap₂, sym, ◌∙◌, append-nil, append_assoc}
use Rattle.std.proofs.Common.{length, length-append, take, drop, Some, None, arith, slice_set, ◌^◌, subst, Result, IsErrAnd}
use Rattle.std.proofs.lemmas.Bool.{cases_lt}
use Rattle.std.proofs.lemmas.List.{take-append-drop, length-drop, length-take-le}
use Rattle.std.proofs.Math.Seq.{take-append_seam, drop-append_seam}
use Rattle.std.specs.List.{insert}
use Rattle.std.specs.Vec.{vec_len, vec_capacity}
use Rattle.std.specs.declared.vec.Vec.{Vec}
use Rattle.std.specs.declared.alloc.Global.{Global}
use Rattle.smith_input.specs.declared.error.Error.{Error}
use Rattle.smith_input.specs.declared.error.Error.TheVariants.{OutOfMemory}
use Rattle.smith_format.specs.Numbers.{unsigned}
use Rattle.smith_format.specs.Piece.{Piece, ◌⊕◌, byte, framed, sized}
use Rattle.smith_format.specs.Writing.{Begins, Gains, IsDue, Puts, piece_length}
use Rattle.smith_format.proofs.Digits.{unsigned_last, unsigned_more, unsigned_some}
use Rattle.smith_format.proofs.Piece.{joined, left_none, right_none, u_fits, u_none}
use Rattle.smith_format.proofs.Steps.{begins_bytes, exits, gained, gains_begins, gains_bytes, gains_some, framed_bytes, framed_nothing}

-- The first digits of the length are in front of the byte that stands in for the last, and `rest` is what the others spell.
pub record Framing (first : Vec ℕ Global) (start count : ℕ) (now : Vec ℕ Global) (at rest : ℕ) : Type 0 where
  pub front : List ℕ
  pub is : now.items ≡ (take start first.items ++ front) ++ drop start first.items
  pub digits : front ++ unsigned rest ≡ unsigned count
  pub place : at ≡ length (take start first.items ++ front)
  pub capacity : vec_capacity first ≤ vec_capacity now

pub framing_begins : (first : Vec ℕ Global) (start count : ℕ) → start ≤ vec_len first → Framing first start count first start count
framing_begins first start count h =
    let none : take start first.items ++ [] ≡ take start first.items = append-nil (take start first.items) in
    record {
      front = [];
      is = sym (ap (λ l. l ++ drop start first.items) none ∙ take-append-drop start first.items);
      digits = refl;
      place = sym (ap length none ∙ length-take-le start first.items (omega (arith, h, first.ok.0)));
      capacity = omega arith;
    }

insert_seam : (xs ys : List ℕ) (y : ℕ) → insert (xs ++ ys) (length xs) y ≡ xs ++ y ∷ ys
insert_seam xs ys y = ap₂ (λ p q. p ++ y ∷ q) (take-append_seam xs ys) (drop-append_seam xs ys)

set_seam : (xs ys : List ℕ) (x y : ℕ) → slice_set (xs ++ x ∷ ys) (length xs) y ≡ xs ++ y ∷ ys
set_seam [] ys x y = refl
set_seam (z ∷ xs) ys x y = ap (λ l. z ∷ l) (set_seam xs ys x y)

-- one digit more
pub framing_next : (first : Vec ℕ Global) (start count : ℕ) (now new : Vec ℕ Global) (at rest x : ℕ) → Framing first start count now at rest → 128 ≤ rest
    → x ≡ 128 + rest % 128 → new.items ≡ insert now.items at x → vec_capacity now ≤ vec_capacity new → Framing first start count new (at + 1) (rest / 128)
framing_next first start count now new at rest x t h digit put room =
    let before = take start first.items in
    let after = drop start first.items in
    let longer : (before ++ t.front) ++ x ∷ [] ≡ before ++ (t.front ++ x ∷ []) = append_assoc before t.front (x ∷ []) in
    record {
      front = t.front ++ x ∷ [];
      is = put
          ∙ ap₂ (λ l n. insert l n x) t.is t.place
          ∙ insert_seam (before ++ t.front) after x
          ∙ sym (append_assoc (before ++ t.front) (x ∷ []) after)
          ∙ ap (λ l. l ++ after) longer;
      digits = append_assoc t.front (x ∷ []) (unsigned (rest / 128))
          ∙ ap (λ l. t.front ++ l) (ap (λ d. d ∷ unsigned (rest / 128)) digit ∙ sym (unsigned_more rest h))
          ∙ t.digits;
      place = omega (arith, t.place, sym (ap length longer), length-append (before ++ t.front) (x ∷ []));
      capacity = omega (arith, t.capacity, room);
    }

-- the byte that stands in is in the buffer
pub framing_within : (first : Vec ℕ Global) (start count : ℕ) (now : Vec ℕ Global) (at rest : ℕ) → Framing first start count now at rest
    → start + 1 ≤ vec_len first → at < vec_len now
framing_within first start count now at rest t h =
    let before = take start first.items in
    let l = length-append (before ++ t.front) (drop start first.items) in
    let d = length-drop start first.items in omega (arith, t.place, ap length t.is, l, d, now.ok.0, first.ok.0, h)

-- What the buffer held, the id, the byte that stands in, and contents, which are all of what was put.
record Begun (old first : Vec ℕ Global) (id start : ℕ) (p : Piece) : Type 0 where
  contents : List ℕ
  p_is : p ≡ Some contents
  before : take start first.items ≡ old.items ++ id ∷ []
  after : drop start first.items ≡ 0 ∷ contents
  capacity : vec_capacity old ≤ vec_capacity first
  long : vec_len first ≡ start + 1 + length contents

begun : (old first : Vec ℕ Global) (id start : ℕ) (p : Piece) → vec_len old + 1 ≡ start → Gains old first ((byte id ⊕ byte 0) ⊕ p) → Begun old first id start p
begun old first id start None at g = let s = gains_some g in absurd (let z : None ≡ Some s.0 = sym (right_none (byte id ⊕ byte 0)) ∙ s.1 in cc)
begun old first id start (Some b) at g =
    let whole : (byte id ⊕ byte 0) ⊕ Some b ≡ Some (id ∷ 0 ∷ b) = ap (λ q. q ⊕ Some b) (joined (id ∷ []) (0 ∷ [])) ∙ joined (id ∷ 0 ∷ []) b in
    let is : first.items ≡ (old.items ++ id ∷ []) ++ 0 ∷ b = gained (id ∷ 0 ∷ b) (subst (λ (q : Piece). Gains old first q) whole g)
    ∙ sym (append_assoc old.items (id ∷ []) (0 ∷ b)) in
    let place : start ≡ length (old.items ++ id ∷ []) = omega (arith, at, old.ok.0, length-append old.items (id ∷ [])) in
    record {
      contents = b;
      p_is = refl;
      before = ap₂ (λ n l. take n l) place is ∙ take-append_seam (old.items ++ id ∷ []) (0 ∷ b);
      after = ap₂ (λ n l. drop n l) place is ∙ drop-append_seam (old.items ++ id ∷ []) (0 ∷ b);
      capacity = g.begins.capacity;
      long = omega (arith, place, first.ok.0, ap length is, length-append (old.items ++ id ∷ []) (0 ∷ b));
    }

sized_bytes : (id : ℕ) (b : List ℕ) → length b < 2 ^ 32 → sized id (Some b) ≡ Some (id ∷ (unsigned (length b) ++ b))
sized_bytes id b h =
    ap (λ q. byte id ⊕ q) (framed_bytes b ∙ ap (λ q. q ⊕ Some b) (u_fits (length b) h) ∙ joined (unsigned (length b)) b)
    ∙ joined (id ∷ []) (unsigned (length b) ++ b)

-- the digits, and what was put after them
module _ (old first : Vec ℕ Global) (id start count : ℕ) (p : Piece) (at_start : vec_len old + 1 ≡ start) (g : Gains old first ((byte id ⊕ byte 0) ⊕ p))
    (counted : count ≡ vec_len first - start - 1) (few : count < 2 ^ 32) (now : Vec ℕ Global) (at rest : ℕ) (t : Framing first start count now at rest) where
  here : Begun old first id start p
  here = begun old first id start p at_start g

  contents_count : length here.contents ≡ count
  contents_count = omega (arith, here.long, counted)

  now_is : now.items ≡ ((old.items ++ id ∷ []) ++ t.front) ++ 0 ∷ here.contents
  now_is = t.is ∙ ap₂ (λ a b. (a ++ t.front) ++ b) here.before here.after

  place_is : at ≡ length ((old.items ++ id ∷ []) ++ t.front)
  place_is = t.place ∙ ap (λ a. length (a ++ t.front)) here.before

  spelled_is : sized id p ≡ Some (id ∷ (unsigned count ++ here.contents))
  spelled_is = ap (sized id) here.p_is ∙ sized_bytes id here.contents (omega (arith, contents_count, few))
      ∙ ap (λ n. Some (id ∷ (unsigned n ++ here.contents))) contents_count

  regrouped : (xs : List ℕ) → ((old.items ++ id ∷ []) ++ t.front) ++ xs ≡ old.items ++ id ∷ (t.front ++ xs)
  regrouped xs = append_assoc (old.items ++ id ∷ []) t.front xs ∙ append_assoc old.items (id ∷ []) (t.front ++ xs)

  pub framing_ends : (new : Vec ℕ Global) → rest < 128 → new.items ≡ slice_set now.items at rest → vec_capacity now ≤ vec_capacity new
      → Gains old new (sized id p)
  framing_ends new last set room =
      let digits : t.front ++ rest ∷ here.contents ≡ unsigned count ++ here.contents = sym (append_assoc t.front (rest ∷ []) here.contents)
      ∙ ap (λ l. l ++ here.contents) (ap (λ l. t.front ++ l) (sym (unsigned_last rest last)) ∙ t.digits) in
      let is : new.items ≡ old.items ++ id ∷ (unsigned count ++ here.contents) = set
      ∙ ap₂ (λ l n. slice_set l n rest) now_is place_is
      ∙ set_seam ((old.items ++ id ∷ []) ++ t.front) here.contents 0 rest
      ∙ regrouped (rest ∷ here.contents)
      ∙ ap (λ l. old.items ++ id ∷ l) digits in
      subst (λ (q : Piece). Gains old new q) (sym spelled_is)
      (gains_bytes (id ∷ (unsigned count ++ here.contents)) is (omega (arith, here.capacity, t.capacity, room)))

  -- there is no room for one digit more
  pub framing_full : (new : Vec ℕ Global) → 128 ≤ rest → new.items ≡ now.items → vec_capacity now ≤ vec_capacity new → vec_capacity now ≤ vec_len now
      → Begins old new × IsDue OutOfMemory old (sized id p)
  framing_full new more same room full = (
    begins_bytes (id ∷ (t.front ++ 0 ∷ here.contents)) (same ∙ now_is ∙ regrouped (0 ∷ here.contents)) (omega (arith, here.capacity, t.capacity, room)),
    record { only = inr refl; too_long = λ h. cc; full = λ h. inr lacking },
  ) where
    lacking : vec_capacity old < vec_len old + piece_length (sized id p)
    lacking = omega (
      arith,
      full,
      here.capacity,
      t.capacity,
      now.ok.0,
      old.ok.0,
      ap length (now_is ∙ regrouped (0 ∷ here.contents)),
      length-append old.items (id ∷ (t.front ++ 0 ∷ here.contents)),
      length-append t.front (0 ∷ here.contents),
      ap piece_length spelled_is,
      length-append (unsigned count) here.contents,
      ap length t.digits,
      length-append t.front (unsigned rest),
      ap length (unsigned_more rest more),
      unsigned_some (rest / 128),
    )

-- How a section is written: its front, its contents, and then their length.

sized_nothing : (id : ℕ) → sized id None ≡ None
sized_nothing id = ap (λ q. byte id ⊕ q) framed_nothing ∙ right_none (byte id)

sized_cases : (id : ℕ) (b : List ℕ) → (length b < 2 ^ 32) ⊎ (2 ^ 32 ≤ length b)
    → (sized id (Some b) ≡ None) ⊎ (length b + 2 ≤ piece_length (sized id (Some b)))
sized_cases id b (inl few) =
    let l = ap piece_length (sized_bytes id b few) in
    let m = length-append (unsigned (length b)) b in inr (omega (arith, l, m, unsigned_some (length b)))
sized_cases id b (inr many) =
    let none : framed (Some b) ≡ None = framed_bytes b ∙ ap (λ q. q ⊕ Some b) (u_none (length b) many) ∙ left_none (Some b) in
    inl (ap (λ q. byte id ⊕ q) none ∙ right_none (byte id))

-- the front of a section takes two bytes or more
sized_long : (id : ℕ) (p : Piece) → (sized id p ≡ None) ⊎ (piece_length p + 2 ≤ piece_length (sized id p))
sized_long id None = inl (sized_nothing id)
sized_long id (Some b) = sized_cases id b (cases_lt (length b) (2 ^ 32))

-- if there is no room for them
full_section : (old mid : Vec ℕ Global) (id : ℕ) (p : Piece) (n : ℕ) → vec_capacity old ≤ vec_capacity mid → vec_len mid ≡ vec_len old + n → n ≤ 2
    → (m : ℕ) → m + n ≤ piece_length p + 2 → vec_capacity mid < vec_len mid + m
    → (sized id p ≡ None) ⊎ (vec_capacity old < vec_len old + piece_length (sized id p))
full_section old mid id p n room long few m within full = elim (sized_long id p) [ inl none ↦ inl none | inr more ↦ inr (omega arith) ]

-- an error in the front of a section
pub section_exit : {A : Type 0} (r : Result A Error) (e : Error) (old new : Vec ℕ Global) (id : ℕ) (p : Piece) → IsErrAnd r (λ y. y ≡ e) → Begins old new
    → IsDue e old (byte id ⊕ byte 0) → Puts r old new (sized id p)
section_exit r e old new id p is g d =
    let two : byte id ⊕ byte 0 ≡ Some (id ∷ 0 ∷ []) = joined (id ∷ []) (0 ∷ []) in
    exits r e is g (record {
      only = d.only;
      too_long = λ h. let z : Some (id ∷ 0 ∷ []) ≡ None = sym two ∙ d.too_long h in cc;
      full = λ h. elim (d.full h) [
        | inl none ↦ let z : Some (id ∷ 0 ∷ []) ≡ None = sym two ∙ none in cc
        | inr full ↦ full_section old old id p 0 (omega arith) (omega arith) (omega arith) 2 (omega arith) (omega (arith, full, ap piece_length two))
      ];
    })

-- an error in its contents
pub contents_exit : {A : Type 0} (r : Result A Error) (e : Error) (old mid new : Vec ℕ Global) (id : ℕ) (p : Piece) → IsErrAnd r (λ y. y ≡ e)
    → Gains old mid (byte id ⊕ byte 0) → Begins mid new → IsDue e mid p → Puts r old new (sized id p)
contents_exit r e old mid new id p is g h d =
    let two = ap piece_length (joined (id ∷ []) (0 ∷ [])) in
    let none : p ≡ None → sized id p ≡ None = λ n. ap (sized id) n ∙ sized_nothing id in
    exits r e is (gains_begins g h) (record {
      only = d.only;
      too_long = λ z. none (d.too_long z);
      full = λ z. elim (d.full z) [
        | inl n ↦ inl (none n)
        | inr full ↦ full_section old mid id p 2 g.begins.capacity (omega (arith, g.length, two)) (omega arith) (piece_length p) (omega arith) full
      ];
    })
