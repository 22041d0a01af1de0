-- How sections are found in bytes, one after another and in one another.
use Rattle.std.proofs.Common.{◌≡◌, ℕ, ◌+◌, ◌-◌, ◌/◌, ◌^◌, ◌<◌, ◌≤◌, ◌↔◌, List, [], ◌∷◌, ◌++◌, length, Option, Some, None, Bool, true, false}
use Rattle.std.proofs.Common.{cond, nat_lt, nat_eq, ap, sym, ◌∙◌, subst, arith, length-take, length-drop}
use Rattle.std.proofs.lemmas.List.Sums.{sum_by_push}
use Rattle.std.proofs.lemmas.Option.{same_Some}
use Rattle.std.specs.Borrow.{Bor}
use Rattle.std.specs.List.{AllByRecursion, starts_with, sum_by}
use Rattle.std.specs.Prelude.{IfSome, ◌==◌}
use Rattle.smith_tree.specs.Grammar.{preamble}
use Rattle.smith_read.specs.Reading.{◌>>=◌}
use Rattle.smith_read.specs.Framed.{Framed, Sections, behind, counted, ends, magic, none_in, number_below, section, section_at, sections_in}

-- ---- what is found is shorter

module _ {A : Type 0} (P : A → Type 0) where
  if_cond : (x : Bool) (o p : Option A) → IfSome o P → IfSome p P → IfSome (cond x o p) P
  if_cond true o p h i = h
  if_cond false o p h i = i

  if_then : {B : Type 0} (Q : B → Type 0) (o : Option A) (f : A → Option B) → IfSome o P → ((x : A) → P x → IfSome (f x) Q) → IfSome (o >>= f) Q
  if_then Q None f h g = tt
  if_then Q (Some x) f h g = g x h

  if_is : (o : Option A) (x : A) → o ≡ Some x → IfSome o P → P x
  if_is o x e h = subst (λ z. IfSome z P) e h

number_shorter : (limit : ℕ) (bs : List ℕ) → IfSome (number_below limit bs) (λ n. length n.1 < length bs)
unfolding number_below
number_shorter limit [] = tt
number_shorter limit (b ∷ bs) =
    let P : ℕ × List ℕ → Type 0 = λ n. length n.1 < length (b ∷ bs) in
    if_cond P (nat_lt b 128) _ _ (if_cond P (nat_lt b limit) _ _ (omega arith) tt)
    (if_cond P (nat_lt 128 limit) _ _
    (if_then (λ n. length n.1 < length bs) P (number_below (limit / 128) bs) _ (number_shorter (limit / 128) bs) (λ x l. omega arith)) tt)

counted_shorter : (bs : List ℕ) → IfSome (counted bs) (λ f. length f.0 + length f.1 < length bs)
unfolding counted
counted_shorter bs =
    let P : List ℕ × List ℕ → Type 0 = λ f. length f.0 + length f.1 < length bs in
    if_then (λ n. length n.1 < length bs) P (number_below (2 ^ 32) bs) _ (number_shorter (2 ^ 32) bs)
    (λ n l. if_cond P (nat_lt (length n.1) n.0) _ _ tt (omega (arith, length-take n.0 n.1, length-drop n.0 n.1)))

behind_shorter : (front bs : List ℕ) → IfSome (behind front bs) (λ s. length s ≤ length bs)
unfolding behind
behind_shorter front bs =
    if_cond (λ (s : List ℕ). length s ≤ length bs) (starts_with nat_eq bs front) _ _ (omega (arith, length-drop (length front) bs)) tt

none_shorter : {A : Type 0} (o : Option A) (n : ℕ) → IfSome (o >>= none_in) (λ s. length s ≤ n)
none_shorter None n = tt
none_shorter (Some x) n = omega arith

inside_shorter : (id : ℕ) (bs : List ℕ) → IfSome (sections_in id bs) (λ s. length s ≤ length bs)
unfolding sections_in
inside_shorter id bs =
    let P : List ℕ → Type 0 = λ s. length s ≤ length bs in
    if_cond P (id == 0) _ _ (omega arith)
    (if_cond P (id == 1) _ _ (none_shorter (behind magic bs) (length bs))
    (if_cond P (id == 4) _ _ (behind_shorter preamble bs)
    (if_cond P (id == 9) _ _ (omega arith) (if_cond P (id == 12) _ _ (omega arith) (none_shorter (counted bs) (length bs))))))

section_shorter : (bs : List ℕ) → IfSome (section_at bs) (λ s. length s.0 + length s.1 + 2 ≤ length bs)
unfolding section_at
section_shorter [] = tt
section_shorter (id ∷ bs) =
    let P : List ℕ × List ℕ → Type 0 = λ s. length s.0 + length s.1 + 2 ≤ length (id ∷ bs) in
    if_cond P (nat_lt 12 id) _ _ tt
    (if_then (λ f. length f.0 + length f.1 < length bs) P (counted bs) _ (counted_shorter bs)
    (λ f l. if_then (λ (s : List ℕ). length s ≤ length f.0) P (sections_in id f.0) _ (inside_shorter id f.0) (λ s m. omega arith)))

-- ---- sections begin with one, and are no others

first_of : (bs : List ℕ) → Sections bs → (s : List ℕ × List ℕ) → section_at bs ≡ Some s → Sections s.0 × Sections s.1
unfolding section_at
first_of _ ends s e = absurd cc
first_of _ (section bs t f p q) s e =
    let g : t ≡ s = same_Some t s (sym f ∙ e) in (subst (λ x. Sections x.0) g p, subst (λ x. Sections x.1) g q)

none_of : (bs : List ℕ) → Sections bs → 0 < length bs → section_at bs ≡ None → ⊥
none_of _ ends l e = omega arith
none_of _ (section bs t f p q) l e = let g : Some t ≡ None = sym f ∙ e in cc

-- ---- the walk

abbrev pub Rests : Type 0
Rests = List (Bor (List ℕ))

abbrev AllSections : Rests → Type 0
AllSections rests = AllByRecursion (λ b. Sections b.now) rests

-- how many bytes they are
abbrev pub held : Rests → ℕ
held rests = sum_by (λ b. length b.now) rests

-- a byte more for each of them
abbrev pub weight : Rests → ℕ
weight rests = sum_by (λ b. length b.now + 1) rests

-- The bytes are framed exactly if each of the rests is sections, and these are bytes from the offset on.
pub record Walking (bytes : List ℕ) (offset : ℕ) (rests : Rests) : Type 0 where
  pub whole : Framed bytes ↔ AllSections rests
  pub left : offset + held rests ≤ length bytes

all_push : (xs : Rests) (x : Bor (List ℕ)) → AllSections (xs ++ x ∷ []) ↔ (AllSections xs × Sections x.now)
all_push [] x = (λ p. (tt, p.0), λ p. (p.1, tt))
all_push (y ∷ xs) x = let s = all_push xs x in (λ p. ((p.0, (s.0 p.1).0), (s.0 p.1).1), λ p. (p.0.0, s.1 (p.0.1, p.1)))

held_push : (xs : Rests) (x : Bor (List ℕ)) → held (xs ++ x ∷ []) ≡ held xs + length x.now
held_push xs x = sum_by_push (λ (b : Bor (List ℕ)). length b.now) xs x

weight_push : (xs : Rests) (x : Bor (List ℕ)) → weight (xs ++ x ∷ []) ≡ weight xs + (length x.now + 1)
weight_push xs x = sum_by_push (λ (b : Bor (List ℕ)). length b.now + 1) xs x

-- Such a walk comes to the last of the rests.
module _ (bytes : List ℕ) (offset : ℕ) (rests front : Rests) (current : Bor (List ℕ)) (e : rests ≡ front ++ current ∷ []) (w : Walking bytes offset rests) where
  here : Framed bytes ↔ (AllSections front × Sections current.now)
  here =
      let s = all_push front current in
      (λ f. s.0 (subst AllSections e (w.whole.0 f)), λ p. w.whole.1 (subst AllSections (sym e) (s.1 p)))

  pub left_here : offset + held front + length current.now ≤ length bytes
  left_here = omega (arith, w.left, ap held e, held_push front current)

  -- Nothing is left of it.
  pub walk_out : length current.now ≡ 0 → Walking bytes offset front
  walk_out n = record { whole = (λ f. (here.0 f).0, λ p. here.1 (p, empty current.now n)); left = omega (arith, left_here) }
    where
      empty : (bs : List ℕ) → length bs ≡ 0 → Sections bs
      empty [] n = ends
      empty (b ∷ bs) n = absurd (omega arith)

  -- It begins with no section, as was seen at an offset in it or at its end.
  pub walk_stop : (seen : ℕ) → seen ≤ offset + length current.now → 0 < length current.now → section_at current.now ≡ None
      → (Framed bytes → ⊥) × (seen ≤ length bytes)
  walk_stop seen within l n = (λ f. none_of current.now (here.0 f).1 l n, omega (arith, left_here, within))

  -- It begins with one.
  module _ (rest inside : Bor (List ℕ)) (f : section_at current.now ≡ Some (inside.now, rest.now)) where
    pub walk_shorter : length inside.now + length rest.now + 2 ≤ length current.now
    walk_shorter = if_is (λ s. length s.0 + length s.1 + 2 ≤ length current.now) (section_at current.now) (inside.now, rest.now) f
        (section_shorter current.now)

    module _ (mid new : Rests) (m : mid ≡ front ++ rest ∷ []) (n : new ≡ mid ++ inside ∷ []) where
      to_new : AllSections front × Sections current.now → AllSections new
      to_new p =
          let q = first_of current.now p.1 (inside.now, rest.now) f in
          subst AllSections (sym n) ((all_push mid inside).1 (subst AllSections (sym m) ((all_push front rest).1 (p.0, q.1)), q.0))

      from_new : AllSections new → AllSections front × Sections current.now
      from_new p =
          let q = (all_push mid inside).0 (subst AllSections n p) in
          let r = (all_push front rest).0 (subst AllSections m q.0) in
          (r.0, section current.now (inside.now, rest.now) f q.1 r.1)

      pub walk_in : (more : ℕ) → more ≡ offset + (length current.now - length inside.now - length rest.now) → Walking bytes more new
      walk_in more k = record {
        whole = (λ g. to_new (here.0 g), λ p. here.1 (from_new p));
        left = omega (arith, k, left_here, walk_shorter, ap held n, ap held m, held_push mid inside, held_push front rest);
      }

      pub walk_falls : weight new < weight rests
      walk_falls = omega (
        arith,
        walk_shorter,
        ap weight n,
        ap weight m,
        ap weight e,
        weight_push mid inside,
        weight_push front rest,
        weight_push front current,
      )
