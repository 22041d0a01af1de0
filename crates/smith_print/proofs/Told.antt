-- How texts are told apart: a text begins with the text of one value and of no other.
use Rattle.std.proofs.Common.{◌≡◌, ℕ, zero, suc, ◌^◌, ◌/◌, ◌%◌, ◌<◌, ◌≤◌, Bool, true, false, List, [], ◌∷◌, ◌++◌, length, drop, get_or}
use Rattle.std.proofs.Common.{Option, Some, None, refl, ap, sym, subst, ◌∙◌, append_assoc, arith, eqb, lit<, nat_lt}
use Rattle.std.proofs.lemmas.Bool.{lt-ltb}
use Rattle.std.proofs.lemmas.Fmt.{decimal_injective, decimal_is_IsNumeral}
use Rattle.std.proofs.lemmas.List.{append_cancel_left}
use Rattle.std.proofs.lemmas.Str.Parse.{digit_from_value}
use Rattle.std.specs.List.{AllByRecursion, flat_map}
use Rattle.std.specs.Fmt.{digit_glyph, digits, digits_onto}
use Rattle.std.specs.Prelude.{codes, decimal, if◌then◌else◌, ◌==◌}
use Rattle.std.specs.Str.Parse.{AllDigits}

-- If one text begins with the texts of two good values, and each goes on as it may, then the values are the same, and so is the rest.
pub record Told {A : Type 0} (Good : A → Type 0) (Next : List ℕ → Type 0) (f : A → List ℕ) : Type 0 where
  pub law : (a b : A) (x y : List ℕ) → Good a → Good b → Next x → Next y → f a ++ x ≡ f b ++ y → (a ≡ b) × (x ≡ y)

abbrev pub Anything : List ℕ → Type 0
Anything x = Unit {0}

-- Texts that begin with the same words go on alike.
pub past : (l a b x y : List ℕ) → (l ++ a) ++ x ≡ (l ++ b) ++ y → a ++ x ≡ b ++ y
past l a b x y e = append_cancel_left l (a ++ x) (b ++ y) (sym (append_assoc l a x) ∙ e ∙ append_assoc l b y)

-- If the values are the same, so is what is made of them.
pub same : {A B : Type 0} (g : A → B) {a b : A} {x y : List ℕ} → (a ≡ b) × (x ≡ y) → (g a ≡ g b) × (x ≡ y)
same g r = (ap g r.0, r.1)

module _ {A : Type 0} {Good : A → Type 0} {Next : List ℕ → Type 0} {f : A → List ℕ} (t : Told Good Next f) where
  -- with words before it
  pub after : (l : List ℕ) → Told Good Next (λ a. l ++ f a)
  after l = record { law = λ a b x y p q n m e. t.law a b x y p q n m (past l (f a) (f b) x y e) }

  -- with words after it
  pub before : (l : List ℕ) {Other : List ℕ → Type 0} → ((x : List ℕ) → Other x → Next (l ++ x)) → Told Good Other (λ a. f a ++ l)
  before l next = record {
    law = λ a b x y p q n m e.
        let r = t.law a b (l ++ x) (l ++ y) p q (next x n) (next y m) (sym (append_assoc (f a) l x) ∙ e ∙ append_assoc (f b) l y) in
        (r.0, append_cancel_left l x y r.1);
  }

  -- with words after it that end it, so that anything may follow
  pub ended : (l : List ℕ) → ((x : List ℕ) → Next (l ++ x)) → Told Good Anything (λ a. f a ++ l)
  ended l next = before l (λ x _. next x)

  -- under stronger premises
  pub weaker : {Fine : A → Type 0} {Other : List ℕ → Type 0} → ((a : A) → Fine a → Good a) → ((x : List ℕ) → Other x → Next x) → Told Fine Other f
  weaker good next = record { law = λ a b x y p q n m e. t.law a b x y (good a p) (good b q) (next x n) (next y m) e }

  -- for what is made of such parts
  pub made : {B : Type 0} (h : B → A) (k : A → B) → ((b : B) → k (h b) ≡ b) → Told (λ b. Good (h b)) Next (λ b. f (h b))
  made h k back = record {
    law = λ a b x y p q n m e.
        let r = t.law (h a) (h b) x y p q n m e in (sym (back a) ∙ ap k r.0 ∙ back b, r.1);
  }

  -- Lists, and values that may be missing. A test of the first characters tells whether another value follows.
  module _ (test : List ℕ → Bool) (starts : (a : A) (x : List ℕ) → Good a → (test (f a ++ x) ≡ true) × Next (f a ++ x)) where
    abbrev Ends : List ℕ → Type 0
    Ends x = (test x ≡ false) × Next x

    goes_on : (xs : List A) (x : List ℕ) → AllByRecursion Good xs → Next x → Next (flat_map f xs ++ x)
    goes_on [] x p n = n
    goes_on (a ∷ xs) x p n = subst Next (sym (append_assoc (f a) (flat_map f xs) x)) (starts a (flat_map f xs ++ x) p.0).1

    no_more : (b : A) (x y : List ℕ) → Good b → test x ≡ false → x ≡ f b ++ y → ⊥
    no_more b x y q n e = let z : true ≡ false = sym (starts b y q).0 ∙ ap test (sym e) ∙ n in absurd cc

    list_law : (xs ys : List A) (x y : List ℕ) → AllByRecursion Good xs → AllByRecursion Good ys → Ends x → Ends y → flat_map f xs ++ x ≡ flat_map f ys ++ y
        → (xs ≡ ys) × (x ≡ y)
    list_law [] [] x y p q n m e = (refl, e)
    list_law [] (b ∷ ys) x y p q n m e = absurd (no_more b x (flat_map f ys ++ y) q.0 n.0 (e ∙ append_assoc (f b) (flat_map f ys) y))
    list_law (a ∷ xs) [] x y p q n m e = absurd (no_more a y (flat_map f xs ++ x) p.0 m.0 (sym e ∙ append_assoc (f a) (flat_map f xs) x))
    list_law (a ∷ xs) (b ∷ ys) x y p q n m e =
        let r = t.law a b (flat_map f xs ++ x) (flat_map f ys ++ y) p.0 q.0 (goes_on xs x p.1 n.1) (goes_on ys y q.1 m.1)
        (sym (append_assoc (f a) (flat_map f xs) x) ∙ e ∙ append_assoc (f b) (flat_map f ys) y) in
        let s = list_law xs ys x y p.1 q.1 n m r.1 in (λ i. r.0 i ∷ s.0 i, s.1)

    pub several : Told (AllByRecursion Good) Ends (flat_map f)
    several = record { law = list_law }

    module _ (g : Option A → List ℕ) (nothing : g None ≡ []) (something : (a : A) → g (Some a) ≡ f a) (Fine : Option A → Type 0)
        (good : (a : A) → Fine (Some a) → Good a) where
      option_law : (a b : Option A) (x y : List ℕ) → Fine a → Fine b → Ends x → Ends y → g a ++ x ≡ g b ++ y → (a ≡ b) × (x ≡ y)
      option_law None None x y p q n m e = (refl, ap (λ l. l ++ x) (sym nothing) ∙ e ∙ ap (λ l. l ++ y) nothing)
      option_law None (Some b) x y p q n m e =
          absurd (no_more b x y (good b q) n.0 (ap (λ l. l ++ x) (sym nothing) ∙ e ∙ ap (λ l. l ++ y) (something b)))
      option_law (Some a) None x y p q n m e =
          absurd (no_more a y x (good a p) m.0 (ap (λ l. l ++ y) (sym nothing) ∙ sym e ∙ ap (λ l. l ++ x) (something a)))
      option_law (Some a) (Some b) x y p q n m e =
          same Some (t.law a b x y (good a p) (good b q) n.1 m.1 (ap (λ l. l ++ x) (sym (something a)) ∙ e ∙ ap (λ l. l ++ y) (something b)))

      pub option : Told Fine Ends g
      option = record { law = option_law }

-- two values, one after the other
pub both : {A B : Type 0} {Good : A → Type 0} {Fine : B → Type 0} {Next Other : List ℕ → Type 0} {f : A → List ℕ} {g : B → List ℕ} → Told Good Next f
    → Told Fine Other g → ((b : B) (x : List ℕ) → Fine b → Other x → Next (g b ++ x)) → Told (λ (p : A × B). Good p.0 × Fine p.1) Other (λ p. f p.0 ++ g p.1)
both {f = f} {g = g} t s next = record {
  law = λ a b x y p q n m e.
      let r = t.law a.0 b.0 (g a.1 ++ x) (g b.1 ++ y) p.0 q.0 (next a.1 x p.1 n) (next b.1 y q.1 m)
      (sym (append_assoc (f a.0) (g a.1) x) ∙ e ∙ append_assoc (f b.0) (g b.1) y) in
      let w = s.law a.1 b.1 x y p.1 q.1 n m r.1 in (λ i. (r.0 i, w.0 i), w.1);
}

-- ---- words and numbers

-- What ends a word or a number. The space, parentheses and ends of lines are below 48, digits and letters aren't.
abbrev pub Stops : List ℕ → Type 0
Stops x = get_or x 0 0 < 48

abbrev pub IsWord : List ℕ → Type 0
IsWord w = AllByRecursion (λ c. 48 ≤ c) w

words : (a b x y : List ℕ) → IsWord a → IsWord b → Stops x → Stops y → a ++ x ≡ b ++ y → (a ≡ b) × (x ≡ y)
words [] [] x y p q n m e = (refl, e)
words [] (d ∷ b) x y p q n m e = absurd (omega (arith, ap (λ l. get_or l 0 0) e, n, q.0))
words (c ∷ a) [] x y p q n m e = absurd (omega (arith, ap (λ l. get_or l 0 0) e, m, p.0))
words (c ∷ a) (d ∷ b) x y p q n m e =
    let r = words a b x y p.1 q.1 n m (ap (drop 1) e) in
    (λ i. ap (λ l. get_or l 0 0) e i ∷ r.0 i, r.1)

-- values that have different words
pub by_words : {A : Type 0} {Good : A → Type 0} (f : A → List ℕ) → ((a : A) → Good a → IsWord (f a)) → ((a b : A) → Good a → Good b → f a ≡ f b → a ≡ b)
    → Told Good Stops f
by_words f word apart = record {
  law = λ a b x y p q n m e. let r = words (f a) (f b) x y (word a p) (word b q) n m e in (apart a b p q r.0, r.1);
}

pub digits_word : (ds : List ℕ) → AllDigits 10 ds → IsWord ds
digits_word [] d = tt
digits_word (c ∷ cs) d = (omega (arith, digit_from_value c d.0), digits_word cs d.1)

abbrev pub IsNumber : ℕ → Type 0
IsNumber n = n < 2 ^ 64

pub number_word : (n : ℕ) → IsNumber n → IsWord (decimal n)
number_word n low = digits_word (decimal n) (decimal_is_IsNumeral n low).0.1

pub numbers : Told IsNumber Stops decimal
numbers = by_words decimal number_word decimal_injective

-- the first digit
pub number_head : (n : ℕ) (x : List ℕ) → IsNumber n → (48 ≤ get_or (decimal n ++ x) 0 0) × (get_or (decimal n ++ x) 0 0 ≤ 57)
number_head n x low = let d = (decimal_is_IsNumeral n low).0 in digit (decimal n) d.0 d.1
  where
    digit : (ds : List ℕ) → 0 < length ds → AllDigits 10 ds → (48 ≤ get_or (ds ++ x) 0 0) × (get_or (ds ++ x) 0 0 ≤ 57)
    digit [] some d = absurd (omega (arith, some))
    digit (c ∷ cs) some d = let z = digit_from_value c d.0 in (omega (arith, z), omega (arith, z))

-- ---- parentheses and spaces

abbrev pub close : List ℕ
close = codes ")"

abbrev pub spaced : List ℕ → Bool
spaced l = eqb (get_or l 0 0) 32

-- a number between a head and a closing parenthesis
pub numbered : (head : List ℕ) → Told IsNumber Anything (λ n. head ++ (decimal n ++ close))
numbered head = after (ended numbers close (λ x. lit< tt)) head

-- ---- numbers of any size

abbrev IsDigits : List ℕ → Type 0
IsDigits ds = AllByRecursion (λ c. (48 ≤ c) × (c ≤ 57)) ds

glyph_digit : (d : ℕ) → d < 10 → (48 ≤ digit_glyph false d) × (digit_glyph false d ≤ 57)
glyph_digit d h = let low : nat_lt d 10 ≡ true = lt-ltb d 10 h in rw low (omega arith, omega arith)

if_digits : (t : Bool) (a b : List ℕ) → IsDigits a → IsDigits b → IsDigits (if t then a else b)
if_digits true a b p q = p
if_digits false a b p q = q

digits_more : (k n : ℕ) (ds : List ℕ) → IsDigits ds → IsDigits (digits_onto k 10 false n ds)
digits_more zero n ds d = d
digits_more (suc k) n ds d =
    let more : IsDigits (digit_glyph false (n % 10) ∷ ds) = (glyph_digit (n % 10) (omega arith), d) in
    if_digits (n / 10 == 0) _ _ more (digits_more k (n / 10) (digit_glyph false (n % 10) ∷ ds) more)

past_digits : (a b x y : List ℕ) (c : ℕ) → 57 < c → IsDigits a → IsDigits b → a ++ (c ∷ x) ≡ b ++ (c ∷ y) → x ≡ y
past_digits [] [] x y c h p q e = ap (drop 1) e
past_digits [] (d ∷ b) x y c h p q e = absurd (omega (arith, ap (λ l. get_or l 0 0) e, h, q.0))
past_digits (d ∷ a) [] x y c h p q e = absurd (omega (arith, ap (λ l. get_or l 0 0) e, h, p.0))
past_digits (d ∷ a) (f ∷ b) x y c h p q e = past_digits a b x y c h p.1 q.1 (ap (drop 1) e)

-- Numbers of any size that a semicolon ends are passed.
pub past_numbers : (m n : ℕ) (x y : List ℕ) → decimal m ++ (59 ∷ x) ≡ decimal n ++ (59 ∷ y) → x ≡ y
unfolding digits
past_numbers m n x y e = past_digits (decimal m) (decimal n) x y 59 (lit< tt) (digits_more 64 m [] tt) (digits_more 64 n [] tt) e
