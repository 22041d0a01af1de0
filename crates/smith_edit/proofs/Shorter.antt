-- What is fewer, and what is shorter.
use Rattle.std.proofs.Common.{◌≡◌, ℕ, ◌+◌, ◌-◌, ◌<◌, ◌≤◌, Bool, true, false, List, [], ◌∷◌, Option, None, Some, length, refl, arith, length-append}
use Rattle.std.proofs.Common.{nat_lt, ⊎_elim, zero, suc, ◌/◌, ◌^◌, ◌++◌, ap, sym, ◌∙◌}
use Rattle.std.proofs.lemmas.Bool.{cases_lt}
use Rattle.std.proofs.lemmas.Bool.Decides.{nat_tests}
use Rattle.std.specs.Prelude.{if◌then◌else◌, pos}
use Rattle.std.specs.Option.{option_to_list}
use Rattle.smith_syntax.specs.declared.types.ComponentValType.{ComponentValType}
use Rattle.smith_format.specs.Numbers.{as_it_is, digits, signed, unsigned}
use Rattle.smith_format.specs.Piece.{Piece, ◌⊕◌, byte, each, framed, many, s_index, sized, u}
use Rattle.smith_format.proofs.Digits.{digits_last, digits_more, digits_some}
use Rattle.smith_format.proofs.Piece.{joined, parts_are, s_index_fits, s_index_none, u_fits, u_none}
use Rattle.smith_edit.specs.Edited.{left_of, members, optional_edited, value_edited}
use Rattle.smith_edit.specs.Removal.{past, removes}
use Rattle.smith_edit.specs.Renumbering.{Renumbering}
use Rattle.smith_edit.specs.declared.walk.Removal.{Removal}
use Rattle.smith_edit.specs.declared.walk.Removal.TheVariants.{Nothing, Items, Everything}
use Rattle.smith_edit.proofs.Past.{past_more}
use Rattle.smith_edit.proofs.Perhaps.{Perhaps, gives, nothing, either}

-- how many are removed of that many items from here on, at least
abbrev pub hits : Removal → ℕ → ℕ
hits Nothing n = 0
hits (Items f l) n = (if nat_lt l n then l + 1 else n) - f
hits Everything n = 0

hits_all : (f l n : ℕ) → l < n → hits (Items f l) n ≡ l + 1 - f
hits_all f l n h = let t : nat_lt l n ≡ true = grind (arith, nat_tests) in rw t refl

hits_some : (f l n : ℕ) → n ≤ l → hits (Items f l) n ≡ n - f
hits_some f l n h = let t : nat_lt l n ≡ false = grind (arith, nat_tests) in rw t refl

pub hit : (m n : ℕ) → m < n → hits (Items m m) n ≡ 1
hit m n h = omega (arith, hits_all m m n h)

pub hits_most : (r : Removal) (n : ℕ) → hits r n ≤ n
hits_most Nothing n = omega arith
hits_most (Items f l) n = ⊎_elim (λ lt. omega (arith, lt, hits_all f l n lt)) (λ ge. omega (arith, hits_some f l n ge)) (cases_lt l n)
hits_most Everything n = omega arith

hits_before : (f l a b : ℕ) → l < a → hits (Items f l) (a + b) ≤ hits (Items f l) a + hits (past a (Items f l)) b
hits_before f l a b lt = let more : l < a + b = omega (arith, lt) in omega (arith, hits_all f l (a + b) more, hits_all f l a lt)

hits_between : (f l a b : ℕ) → a ≤ l → l < a + b → hits (Items f l) (a + b) ≤ hits (Items f l) a + hits (past a (Items f l)) b
hits_between f l a b ge lt =
    let less : l - a < b = omega (arith, ge, lt) in
    rw (past_more a f l ge) (omega (arith, ge, lt, hits_all f l (a + b) lt, hits_some f l a ge, hits_all (f - a) (l - a) b less))

hits_after : (f l a b : ℕ) → a + b ≤ l → hits (Items f l) (a + b) ≤ hits (Items f l) a + hits (past a (Items f l)) b
hits_after f l a b ge =
    let most : a ≤ l = omega (arith, ge) in
    let more : b ≤ l - a = omega (arith, ge) in
    rw (past_more a f l most) (omega (arith, ge, hits_some f l (a + b) ge, hits_some f l a most, hits_some (f - a) (l - a) b more))

pub hits_sum : (r : Removal) (a b : ℕ) → hits r (a + b) ≤ hits r a + hits (past a r) b
hits_sum Nothing a b = omega arith
hits_sum (Items f l) a b =
    ⊎_elim (hits_before f l a b) (λ ge. ⊎_elim (hits_between f l a b ge) (hits_after f l a b) (cases_lt l (a + b))) (cases_lt l a)
hits_sum Everything a b = omega arith

none_here : (f l : ℕ) → removes (Items f l) ≡ false → 1 ≤ f
none_here f l h = grind (arith, nat_tests)

-- an item that remains, and what is inside it
pub hits_inside : (r : Removal) (n : ℕ) → removes r ≡ false → hits r (n + 1) ≤ hits (past 1 r) n
hits_inside Nothing n h = omega arith
hits_inside (Items f l) n h =
    let some = none_here f l h in
    let sum = hits_sum (Items f l) 1 n in
    let same : n + 1 ≡ 1 + n = omega arith in
    let first : hits (Items f l) 1 ≡ 0 =
    ⊎_elim (λ lt. omega (arith, lt, some, hits_all f l 1 lt)) (λ ge. omega (arith, some, hits_some f l 1 ge)) (cases_lt l 1) in
    rw same (omega (arith, sum, first))
hits_inside Everything n h = omega arith

-- members

first_of : {A : Type 0} (r : Removal) (o : Option A) (b : Bool) → removes r ≡ b → length (option_to_list (if b then None else o)) + hits r 1 ≤ 1
first_of r o true b = omega (arith, hits_most r 1)
first_of r None false b = omega (arith, hits_most r 1)
first_of r (Some x) false b = omega (arith, hits_inside r 0 b, hits_most (past 1 r) 0)

pub members_fewer : {A : Type 0} (f : A → Option A) (r : Removal) (xs : List A) → length (members f r xs) + hits r (length xs) ≤ length xs
members_fewer f r [] = omega (arith, hits_most r 0)
members_fewer f r (x ∷ xs) =
    let here = first_of r (f x) (removes r) refl in
    let rest = members_fewer f (past 1 r) xs in
    let sum : hits r (1 + length xs) ≤ hits r 1 + hits (past 1 r) (length xs) = hits_sum r 1 (length xs) in
    let same : length (x ∷ xs) ≡ 1 + length xs = omega arith in
    rw same (omega (arith, here, rest, sum, length-append (option_to_list (if removes r then None else f x)) (members f (past 1 r) xs)))

pub optional_fewer : (s : Renumbering) (r : Removal) (o : Option ComponentValType)
    → length (option_to_list (optional_edited s r o)) + hits r (length (option_to_list o)) ≤ length (option_to_list o)
optional_fewer s r None = omega (arith, hits_most r 0)
optional_fewer s r (Some v) = first_of r (value_edited s v) (removes r) refl

-- what is left of a compound type
pub left_is : {A : Type 0} (old new : List A) → Perhaps (λ z. (z ≡ new) × (1 ≤ length old → 1 ≤ length z)) (left_of old new)
left_is [] new = gives new (refl, λ h. absurd (omega (arith, h)))
left_is (x ∷ xs) [] = nothing tt
left_is (x ∷ xs) (y ∷ ys) = gives (y ∷ ys) (refl, λ h. omega arith)

-- two lists of members
pub both_fewer : (r : Removal) (a b m n : ℕ) → m + hits r a ≤ a → n + hits (past a r) b ≤ b → m + n + hits r (a + b) ≤ a + b
both_fewer r a b m n h k = omega (arith, h, k, hits_sum r a b)

-- pieces that have no more bytes than others

-- the first has bytes if the other has, and no more of them
abbrev pub NoLonger : Piece → Piece → Type 0
NoLonger p q = (b : List ℕ) → q ≡ Some b → (a : List ℕ) × (p ≡ Some a) × (length a ≤ length b)

pub same : (p : Piece) → NoLonger p p
same p b e = (b, e, omega arith)

pub glue : (p p2 q q2 : Piece) → NoLonger p p2 → NoLonger q q2 → NoLonger (p ⊕ q) (p2 ⊕ q2)
glue p p2 q q2 f g b e =
    let c = parts_are p2 q2 b e in
    let (x, x_is, x_le) = f c.left c.p_is in
    let (y, y_is, y_le) = g c.right c.q_is in
    let whole : length b ≡ length (c.left ++ c.right) = ap length c.is in
    (x ++ y, rw (x_is, y_is) (joined x y), omega (arith, length-append x y, length-append c.left c.right, x_le, y_le, whole))

pub after : (p q q2 : Piece) → NoLonger q q2 → NoLonger (p ⊕ q) (p ⊕ q2)
after p q q2 g = glue p p q q2 (same p) g

pub before : (p p2 q : Piece) → NoLonger p p2 → NoLonger (p ⊕ q) (p2 ⊕ q)
before p p2 q f = glue p p2 q q f (same q)

pub dropped : (p q q2 : Piece) → NoLonger q q2 → NoLonger q (p ⊕ q2)
dropped p q q2 g b e =
    let c = parts_are p q2 b e in
    let (y, y_is, y_le) = g c.right c.q_is in
    let whole : length b ≡ length (c.left ++ c.right) = ap length c.is in
    (y, y_is, omega (arith, length-append c.left c.right, y_le, whole))

-- one byte, for more
pub short_byte : (n m : ℕ) (q : Piece) → NoLonger (byte n) (byte m ⊕ q)
short_byte n m q b e =
    let c = parts_are (byte m) q b e in
    let one : m ∷ [] ≡ c.left = let s : Some (m ∷ []) ≡ Some c.left = c.p_is in cc in
    let whole = ap length c.is in
    let some = ap length one in
    (n ∷ [], refl, omega (arith, whole, some, length-append c.left c.right))

-- numbers

module _ (bits : ℕ → ℕ) (last : ℕ) where
  one_digit : (m k n j : ℕ) → n < last → length (digits bits last m n) ≤ length (digits bits last k j)
  one_digit m k n j lt = let one = ap length (digits_last bits last m n lt) in omega (arith, one, digits_some bits last k j)

  more_digits : (m k n j : ℕ) → length (digits bits last m (n / 128)) ≤ length (digits bits last k (j / 128)) → last ≤ n → n ≤ j
      → length (digits bits last (suc m) n) ≤ length (digits bits last (suc k) j)
  more_digits m k n j h ge le = grind (arith, digits_more)

  digits_grow : (m k n j : ℕ) → 0 < last → n ≤ j → j ≤ k → length (digits bits last m n) ≤ length (digits bits last k j)
  unfolding digits
  digits_grow zero k n j some le fuel = omega (arith, digits_some bits last k j)
  digits_grow (suc m) zero n j some le fuel = one_digit (suc m) zero n j (omega (arith, some, le, fuel))
  digits_grow (suc m) (suc k) n j some le fuel =
      ⊎_elim (one_digit (suc m) (suc k) n j)
      (λ ge. more_digits m k n j (digits_grow m k (n / 128) (j / 128) some (omega (arith, le)) (omega (arith, some, ge, le, fuel))) ge le)
      (cases_lt n last)

unsigned_grow : (i j : ℕ) → i ≤ j → length (unsigned i) ≤ length (unsigned j)
unfolding unsigned
unsigned_grow i j h = digits_grow as_it_is 128 i j i j (omega arith) h (omega arith)

signed_grow : (i j : ℕ) → i ≤ j → length (signed (pos i)) ≤ length (signed (pos j))
unfolding signed
signed_grow i j h = digits_grow as_it_is 64 i j i j (omega arith) h (omega arith)

pub u_grow : (i j : ℕ) → i ≤ j → NoLonger (u i) (u j)
u_grow i j h b e =
    ⊎_elim
    (λ lt. let is : unsigned j ≡ b = let s : Some (unsigned j) ≡ Some b = sym (u_fits j lt) ∙ e in cc in
    (unsigned i, u_fits i (omega (arith, h, lt)), rw (sym is) (unsigned_grow i j h)))
    (λ ge. let not : None ≡ Some b = sym (u_none j ge) ∙ e in absurd cc)
    (cases_lt j (2 ^ 32))

pub s_index_grow : (i j : ℕ) → i ≤ j → NoLonger (s_index i) (s_index j)
s_index_grow i j h b e =
    ⊎_elim
    (λ lt. let is : signed (pos j) ≡ b = let s : Some (signed (pos j)) ≡ Some b = sym (s_index_fits j lt) ∙ e in cc in
    (signed (pos i), s_index_fits i (omega (arith, h, lt)), rw (sym is) (signed_grow i j h)))
    (λ ge. let not : None ≡ Some b = sym (s_index_none j ge) ∙ e in absurd cc)
    (cases_lt j (2 ^ 32))

pub framed_grow : (p q : Piece) → NoLonger p q → NoLonger (framed p) (framed q)
unfolding framed
framed_grow p None f b e = absurd cc
framed_grow p (Some x) f b e =
    let (a, is, le) = f x refl in
    rw is (glue (u (length a)) (u (length x)) (Some a) (Some x) (u_grow (length a) (length x) le) (λ y s. (a, refl, let xy : x ≡ y = cc in rw (sym xy) le)) b e)

pub sized_grow : (id : ℕ) (p q : Piece) → NoLonger p q → NoLonger (sized id p) (sized id q)
sized_grow id p q f = after (byte id) (framed p) (framed q) (framed_grow p q f)

-- what may be left
abbrev pub Left : {A : Type 0} → (A → Piece) → Option A → Piece → Type 0
Left f o q = Perhaps (λ x. NoLonger (f x) q) o

module _ {A : Type 0} (f : A → Piece) where
  pub first_left : {o : Option A} (xs : List A) (q q2 : Piece) → Left f o q → NoLonger (each f xs) q2 → NoLonger (each f (option_to_list o ++ xs)) (q ⊕ q2)
  first_left xs q q2 (nothing why) m = dropped q (each f xs) q2 m
  first_left xs q q2 (gives x l) m = glue (f x) q (each f xs) q2 l m

  module _ (edited : A → Option A) (left : (x : A) → Left f (edited x) (f x)) where
    each_members : (r : Removal) (xs : List A) → NoLonger (each f (members edited r xs)) (each f xs)
    each_members r [] = same (Some [])
    each_members r (x ∷ xs) =
        first_left (members edited (past 1 r) xs) (f x) (each f xs) (either (removes r) (nothing tt) (left x)) (each_members (past 1 r) xs)

    pub many_members : (r : Removal) (xs : List A) → NoLonger (many f (members edited r xs)) (many f xs)
    many_members r xs =
        glue (u (length (members edited r xs))) (u (length xs)) (each f (members edited r xs)) (each f xs)
        (u_grow _ _ (omega (arith, members_fewer edited r xs))) (each_members r xs)
