-- The frames of bytes that are a component to any reader of the standard, whatever it makes of what they hold.
use Rattle.std.specs.Prelude.{◌≡◌, ◌≤◌, ℕ, ◌+◌, ◌-◌, ◌*◌, ◌/◌, ◌^◌, List, [], ◌∷◌, length, take, drop, Option, Some, None, nat_lt, nat_eq, ◌==◌, Result, Ok}
use Rattle.std.specs.Prelude.{Err}
use Rattle.std.specs.Prelude.{if◌then◌else◌}
use Rattle.std.specs.List.{starts_with}
use Rattle.smith_tree.specs.Grammar.{preamble}
use Rattle.smith_read.specs.Reading.{Found, ◌>>=◌}
use Rattle.smith_read.specs.declared.frames.Framing.{Framing}
use Rattle.smith_read.specs.declared.frames.Framing.TheVariants as framing

-- what a function found, seen by a view, is that; or there is nothing, and it says why
abbrev pub Finds : {X A E : Type 0} → (X → A) → Result X E → Option A → Type 0
Finds view (Ok x) found = found ≡ Some (view x)
Finds view (Err e) found = found ≡ None

-- what follows those bytes, if they are in front
unfoldable pub behind : List ℕ → List ℕ → Option (List ℕ)
behind front bs = if starts_with nat_eq bs front then Some (drop (length front) bs) else None

-- An unsigned number of N bits, where `limit` is 2 ^ N, padded or not, and what follows it (core specification, Binary Format, Values, Integers): a byte
-- below 128; or one from 128 on and then a number of N - 7 bits, if N is above 7.
unfoldable pub number_below : ℕ → List ℕ → Found ℕ
number_below limit [] = None
number_below limit (b ∷ bs) =
    if nat_lt b 128 then (if nat_lt b limit then Some (b, bs) else None)
    else if nat_lt 128 limit then (number_below (limit / 128) bs >>= λ x. Some (b - 128 + 128 * x.0, x.1)) else None

-- As many bytes as the number in front of them says, and what follows them. It is a number of 32 bits, and so has at most five bytes.
unfoldable pub counted : List ℕ → Found (List ℕ)
counted bs = number_below (2 ^ 32) bs >>= λ n. if nat_lt (length n.1) n.0 then None else Some (take n.0 n.1, drop n.0 n.1)

-- the magic word, with which a core module begins (core specification, Binary Format, Modules)
abbrev pub magic : List ℕ
magic = 0x00 ∷ 0x61 ∷ 0x73 ∷ 0x6d ∷ []

-- no sections are inside
abbrev pub none_in : {A : Type 0} → A → Option (List ℕ)
none_in contents = Some []

-- The sections inside the contents of a section of that id (Binary.md, component definitions): those of a component (4), and none in others. A core
-- module (1) begins with the magic word. Custom sections (0), start functions (9) and values (12) may be any bytes. All others are lists (core
-- specification, Binary Format, Conventions, Lists): a count, and then a byte at least for each entry.
unfoldable pub sections_in : ℕ → List ℕ → Option (List ℕ)
sections_in id contents =
    if id == 0 then none_in contents
    else if id == 1 then (behind magic contents >>= none_in)
    else if id == 4 then behind preamble contents
    else if id == 9 then none_in contents
    else if id == 12 then none_in contents
    else (counted contents >>= none_in)

-- The sections inside the section in front, and what follows it (core specification, Binary Format, Modules, Sections): its id, of which 12 is the last
-- (Binary.md, component definitions), and its contents after their length.
unfoldable pub section_at : List ℕ → Found (List ℕ)
section_at [] = None
section_at (id ∷ bs) = if nat_lt 12 id then None else (counted bs >>= λ f. sections_in id f.0 >>= λ inside. Some (inside, f.1))

-- sections in a row
pub data Sections : List ℕ → Type 0 where
  ends : Sections []
  section : (bs : List ℕ) (s : List ℕ × List ℕ) → section_at bs ≡ Some s → Sections s.0 → Sections s.1 → Sections bs

-- a component: its preamble, and sections (Binary.md, component definitions)
pub record Framed (bytes : List ℕ) : Type 0 where
  pub rest : List ℕ
  pub begins : behind preamble bytes ≡ Some rest
  pub sections : Sections rest

-- They are framed; or they are not, and the offset is in them or at their end.
abbrev pub IsFraming : List ℕ → Framing → Type 0
IsFraming bytes framing.Framed = Framed bytes
IsFraming bytes (framing.Unframed broken offset) = (¬ Framed bytes) × (offset ≤ length bytes)
