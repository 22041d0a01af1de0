-- What the front of some bytes is read as: a value and the bytes after it, or nothing.
use Rattle.std.specs.Prelude.{◌≡◌, ℕ, zero, suc, ◌+◌, ◌-◌, ◌*◌, List, [], ◌∷◌, length, take, drop, Option, Some, None, Result, Ok, Err, nat_lt, ◌==◌}
use Rattle.std.specs.Prelude.{if◌then◌else◌}
use Rattle.std.specs.Str.{is_utf8}
use Rattle.smith_read.specs.declared.unread.Unread.{Unread}
use Rattle.smith_read.specs.declared.unread.Unread.TheVariants as error

abbrev pub Found : Type 0 → Type 0
Found A = Option (A × List ℕ)

infixl 10 ◌>>=◌
abbrev pub ◌>>=◌ : {A B : Type 0} → Option A → (A → Option B) → Option B
(Some x) >>= f = f x
None >>= f = None

-- What a function returned, seen by a view, is what is read. It may fail when out of memory.
abbrev pub Fails : {A : Type 0} → Unread → Option A → Type 0
Fails error.OutOfMemory read = Unit {0}
Fails (error.Malformed left reason) read = read ≡ None

abbrev pub Gives : {X A : Type 0} → (X → A) → Result X Unread → Option A → Type 0
Gives view (Ok x) read = read ≡ Some (view x)
Gives view (Err e) read = Fails e read

-- a number below `least` has a shorter form
abbrev pub at_least : ℕ → ℕ → List ℕ → Found ℕ
at_least least n rest = if nat_lt n least then None else Some (n, rest)

abbrev pub at_most : ℕ → ℕ × List ℕ → Found ℕ
at_most most x = if nat_lt most x.0 then None else Some x

-- a number from `least` to `most`
abbrev pub within : ℕ → ℕ → ℕ → List ℕ → Found ℕ
within least most n rest = at_least least n rest >>= at_most most

-- a byte
unfoldable pub byte_at : List ℕ → Found ℕ
byte_at [] = None
byte_at (b ∷ bs) = if nat_lt b 256 then Some (b, bs) else None

-- Seven bits a byte. A byte below `last` is the last one, and one from 128 on is not.
unfoldable pub digits_at : ℕ → List ℕ → Found ℕ
digits_at last [] = None
digits_at last (b ∷ bs) =
    if nat_lt b last then Some (b, bs) else if nat_lt b 128 then None
    else if nat_lt b 256 then (digits_at last bs >>= λ x. at_least last (b - 128 + 128 * x.0) x.1) else None

-- a number that is at most `most`
unfoldable pub number_at : ℕ → ℕ → List ℕ → Found ℕ
number_at last most bs = digits_at last bs >>= at_most most

unfoldable pub u_at : List ℕ → Found ℕ
u_at bs = number_at 128 4294967295 bs

unfoldable pub index_at : List ℕ → Found ℕ
index_at bs = number_at 64 4294967295 bs

-- a value, seen otherwise
abbrev pub seen : {A B : Type 0} → (A → B) → Found A → Found B
seen f x = x >>= λ y. Some (f y.0, y.1)

-- one value after another
abbrev pub both_at : {A B : Type 0} → (List ℕ → Found A) → (List ℕ → Found B) → List ℕ → Found (A × B)
both_at first second bs = first bs >>= λ x. second x.1 >>= λ y. Some ((x.0, y.0), y.1)

-- what follows that byte
abbrev pub after_byte : ℕ → ℕ × List ℕ → Option (List ℕ)
after_byte n x = if x.0 == n then Some x.1 else None

unfoldable pub skip_at : ℕ → List ℕ → Option (List ℕ)
skip_at n bs = byte_at bs >>= after_byte n

-- a value after that byte
abbrev pub behind : {A : Type 0} → ℕ → (List ℕ → Found A) → List ℕ → Found A
behind n reading bs = skip_at n bs >>= reading

-- a bound of limits
unfoldable pub limit_at : List ℕ → Found ℕ
limit_at bs = number_at 128 18446744073709551615 bs

-- a text after its length
abbrev pub utf8_at : List ℕ → List ℕ → Found (List ℕ)
utf8_at text rest = if is_utf8 text then Some (text, rest) else None

unfoldable pub text_at : List ℕ → Found (List ℕ)
text_at bs = u_at bs >>= λ n. if nat_lt (length n.1) n.0 then None else utf8_at (take n.0 n.1) (drop n.0 n.1)

module _ {A : Type 0} (reading : List ℕ → Found A) where
  -- that many values
  unfoldable pub times_at : ℕ → List ℕ → Found (List A)
  times_at zero bs = Some ([], bs)
  times_at (suc n) bs = reading bs >>= λ x. times_at n x.1 >>= λ xs. Some (x.0 ∷ xs.0, xs.1)

  -- a list after its count
  unfoldable pub many_at : List ℕ → Found (List A)
  many_at bs = u_at bs >>= λ n. times_at n.0 n.1

-- all of the bytes
abbrev pub all_of : {A : Type 0} → Found A → Option A
all_of read = read >>= λ x. if length x.1 == 0 then Some x.0 else None

-- what is framed by its length, and what follows it
unfoldable pub frame_at : List ℕ → Found (List ℕ)
frame_at bs = u_at bs >>= λ n. if nat_lt (length n.1) n.0 then None else Some (take n.0 n.1, drop n.0 n.1)

abbrev pub framed_at : {A : Type 0} → (List ℕ → Option A) → List ℕ → Found A
framed_at contents bs = frame_at bs >>= λ f. contents f.0 >>= λ x. Some (x, f.1)
