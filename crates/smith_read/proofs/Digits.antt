-- Numbers: how they are read byte by byte, and that what is read is what is written.
use Rattle.std.proofs.Common.{Result, Ok, Err, IsErrAnd, length, take, drop, take_all, slice_index_or, ◌≡◌, ℕ, ◌+◌, ◌-◌, ◌*◌, ◌/◌, ◌<◌}
use Rattle.std.proofs.Common.{◌≤◌, ◌⊎◌, inl, inr, List, [], ◌∷◌, Option, Some, None, refl, ap, sym, ◌∙◌, arith, Bool, true, false, nat_lt, cond}
use Rattle.std.proofs.lemmas.Bool.{ltb-false, lt-ltb, le-ltb}
use borrow.Author.Tests.{ltb-true}
use Rattle.smith_read.specs.Reading.{Found, ◌>>=◌, at_least, at_most, within, byte_at, digits_at, number_at, Fails, Gives}
use Rattle.smith_read.specs.declared.unread.Unread.{Unread}
use Rattle.smith_read.specs.declared.unread.Unread.TheVariants as error
use Rattle.std.proofs.lemmas.Option.{same_Some}

abbrev pub found : {A : Type 0} → A → List ℕ → Found A
found x rest = Some (x, rest)

pub found_same : {A : Type 0} (x y : A) (a b : List ℕ) → found x a ≡ found y b → (x ≡ y) × (a ≡ b)
found_same x y a b e = let f = same_Some (x, a) (y, b) e in (ap (λ p. p.0) f, ap (λ p. p.1) f)

-- no byte is there
pub number_none : (last most : ℕ) (bs : List ℕ) → 0 < last → last ≤ 128 → byte_at bs ≡ None → number_at last most bs ≡ None
unfolding byte_at number_at digits_at
number_none last most [] l h e = refl
number_none last most (b ∷ bs) l h e = by_test (nat_lt b 256) refl e
  where
    by_test : (x : Bool) → nat_lt b 256 ≡ x → cond {A = Found ℕ} x (Some (b, bs)) None ≡ None → digits_at last (b ∷ bs) >>= at_most most ≡ None
    by_test true f g = absurd cc
    by_test false f g = rw (le-ltb b last (let k = ltb-false b 256 f in omega arith), le-ltb b 128 (let k = ltb-false b 256 f in omega arith), f) refl

-- the byte that is there
pub byte_is : (bs rest : List ℕ) (b : ℕ) → byte_at bs ≡ Some (b, rest) → (bs ≡ b ∷ rest) × (b < 256)
unfolding byte_at
byte_is [] rest b e = absurd cc
byte_is (c ∷ bs) rest b e = by_test (nat_lt c 256) refl e
  where
    by_test : (x : Bool) → nat_lt c 256 ≡ x → cond {A = Found ℕ} x (Some (c, bs)) None ≡ Some (b, rest) → (c ∷ bs ≡ b ∷ rest) × (b < 256)
    by_test true f g = let h = found_same c b bs rest g in let h0 : c ≡ b = h.0 in (ap (λ x. x ∷ bs) h.0 ∙ ap (λ x. b ∷ x) h.1, omega (arith, ltb-true c 256 f))
    by_test false f g = absurd cc

pub number_last : (last most b : ℕ) (rest : List ℕ) → b < last → number_at last most (b ∷ rest) ≡ within 0 most b rest
unfolding number_at digits_at
number_last last most b rest h = rw (lt-ltb b last h, le-ltb b 0 (omega arith)) refl

pub number_wrong : (last most b : ℕ) (rest : List ℕ) → last ≤ b → b < 128 → number_at last most (b ∷ rest) ≡ None
unfolding number_at digits_at
number_wrong last most b rest h l = rw (le-ltb b last h, lt-ltb b 128 l) refl

within_least : (least most n : ℕ) (rest : List ℕ) → (n < least) ⊎ (most < n) → within least most n rest ≡ None
within_least least most n rest h = by_test (nat_lt n least) (nat_lt most n) refl refl
  where
    by_test : (x y : Bool) → nat_lt n least ≡ x → nat_lt most n ≡ y → cond {A = Found ℕ} x None (Some (n, rest)) >>= at_most most ≡ None
    by_test true y e f = refl
    by_test false true e f = rw f refl
    by_test false false e f = elim h [ inl l ↦ absurd (omega (arith, ltb-false n least e)) | inr m ↦ absurd (omega (arith, ltb-false most n f)) ]

pub number_next : (last most b : ℕ) (rest : List ℕ) → last ≤ 128 → 128 ≤ b → b < 256
    → number_at last most (b ∷ rest) ≡ number_at last (most / 128) rest >>= λ x. within last most (b - 128 + 128 * x.0) x.1
unfolding number_at digits_at
number_next last most b rest l h m = rw (le-ltb b last (omega arith), le-ltb b 128 h, lt-ltb b 256 m) (by_digits (digits_at last rest))
  where
    by_digits : (d : Found ℕ) → (d >>= λ x. at_least last (b - 128 + 128 * x.0) x.1) >>= at_most most ≡ (d >>= at_most (most / 128)) >>= λ x. within last most
        (b - 128 + 128 * x.0) x.1
    by_digits None = refl
    by_digits (Some x) = by_test (nat_lt (most / 128) x.0) refl
      where
        by_test : (y : Bool) → nat_lt (most / 128) x.0 ≡ y
            → within last most (b - 128 + 128 * x.0) x.1 ≡ cond y None (Some x) >>= λ x. within last most (b - 128 + 128 * x.0) x.1
        by_test true e = within_least last most (b - 128 + 128 * x.0) x.1 (inr (omega (arith, ltb-true (most / 128) x.0 e)))
        by_test false e = refl

-- if it is at least `last`, it is too great
pub number_great : (last most b : ℕ) (rest : List ℕ) → last ≤ 128 → 128 ≤ b → b < 256 → most < last → number_at last most (b ∷ rest) ≡ None
number_great last most b rest l h m g = number_next last most b rest l h m ∙ by_number (number_at last (most / 128) rest)
  where
    by_number : (d : Found ℕ) → d >>= (λ x. within last most (b - 128 + 128 * x.0) x.1) ≡ None
    by_number None = refl
    by_number (Some x) = within_least last most (b - 128 + 128 * x.0) x.1 (by_test (nat_lt (b - 128 + 128 * x.0) last) refl)
      where
        by_test : (y : Bool) → nat_lt (b - 128 + 128 * x.0) last ≡ y → (b - 128 + 128 * x.0 < last) ⊎ (most < b - 128 + 128 * x.0)
        by_test true e = inl (ltb-true _ _ e)
        by_test false e = inr (let k = ltb-false _ _ e in omega arith)

pub byte_none : (bs : List ℕ) → length bs ≡ 0 → byte_at bs ≡ None
unfolding byte_at
byte_none [] e = refl
byte_none (b ∷ bs) e = absurd (omega arith)

pub byte_some : (bs : List ℕ) → 0 < length bs → slice_index_or bs 0 0 < 256 → byte_at bs ≡ Some (slice_index_or bs 0 0, take (length bs - 1) (drop 1 bs))
unfolding byte_at
byte_some [] l h = absurd (omega arith)
byte_some (b ∷ bs) l h = rw (lt-ltb b 256 h) (ap (λ t. Some (b, t)) (sym (take_all (length (b ∷ bs) - 1) bs (omega arith))))

-- an error that a reader passes on, given that it reads nothing if there was nothing
pub passes : {A B X : Type 0} (view : X → B) (r : Result X Unread) (e : Unread) (q : Option A) (p : Option B) → IsErrAnd r (λ y. y ≡ e) → Fails e q
    → (q ≡ None → p ≡ None) → Gives view r p
passes view (Ok x) e q p is f h = absurd is
passes view (Err error.OutOfMemory) e q p is f h = tt
passes view (Err (error.Malformed left reason)) (error.Malformed m s) q p is f h = h f
passes view (Err (error.Malformed left reason)) error.OutOfMemory q p is f h = absurd cc

pub fails : {A : Type 0} (e : Unread) {left : ℕ} {reason : _} (p : Option A) → e ≡ error.Malformed left reason → p ≡ None → Fails e p
fails error.OutOfMemory p e n = tt
fails (error.Malformed l r) p e n = n
